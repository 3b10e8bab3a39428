use Rattle.std.proofs.Common.{◌∙◌, None, ap}
use Rattle.engine.specs.Tables.{served_from}
use Rattle.engine.proofs.StandLemmas.{none-base, none-stands}
use Rattle.engine.proofs.served.serve_none.Goals as goal

pub returns-clause-none : goal.returns-clause-none
returns-clause-none c =
    c.in_ok-tables.ensures ∙ ap (λ base. served_from base None) (none-base c.args.meta.now _ c.in_ok-base.ensures.years c.in_ok-base.ensures.base_cut)

pub returns-clause-stands : goal.returns-clause-stands
returns-clause-stands c =
    none-stands c.args.meta.now _ _ c.in_ok-tables.ensures c.in_ok-base.ensures.parts c.in_ok-base.ensures.years c.in_ok-base.ensures.base_cut
