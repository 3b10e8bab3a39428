use Rattle.std.proofs.Common.{◌∙◌, ◌≤◌, map, take, sym, ap, subst}
use Rattle.std.specs.Prelude.{max, option_map}
use Rattle.std.specs.Arc.{arc_value}
use Rattle.std.proofs.Math.Nat.{le-max_right}
use Rattle.engine.specs.Stands.{GoesTo, Stands}
use Rattle.engine.specs.Tables.{tables_of}
use Rattle.engine.proofs.StandLemmas.{goes_kept}
use Rattle.engine.proofs.swaps.tables_after_full.Goals as goal

pub serve-requires-clause-below : goal.serve-requires-clause-below
serve-requires-clause-below c =
    subst (λ n. n ≤ c.max-published.result) (sym c.in_ok-base.ensures.base_cut)
    (subst (λ n. c.args.number ≤ n) (sym c.max-published.ensures) (le-max_right c.args.shown.now.published c.args.number))

pub serve-requires-clause-base : goal.serve-requires-clause-base
serve-requires-clause-base c =
    c.in_ok-base.ensures.parts
    ∙ ap (λ n. tables_of c.args.meta.now (take n (map arc_value c.args.changes.now))) (sym c.in_ok-base.ensures.base_cut)

pub serve-requires-clause-over : goal.serve-requires-clause-over
serve-requires-clause-over c =
    let log = map arc_value c.args.changes.now in
    let meta = c.args.meta.now in
    let kept = goes_kept meta log c.args.shown.now.base_cut c.args.shown.now.published c.args.number (arc_value c.args.shown.now.tables).latest
    c.requires.base c.requires.over in
    subst (λ b. GoesTo meta log b c.max-published.result (option_map arc_value c.in_ok-over.over)) (sym c.in_ok-base.ensures.base_cut)
    (subst (λ n. GoesTo meta log c.args.number n (option_map arc_value c.in_ok-over.over)) (sym c.max-published.ensures)
    (subst (GoesTo meta log c.args.number (max c.args.shown.now.published c.args.number)) (sym c.in_ok-over.ensures) kept))

pub returns-clause-stands : goal.returns-clause-stands
returns-clause-stands c =
    let log = map arc_value c.args.changes.now in
    let meta = c.args.meta.now in
    subst (λ n. Stands meta log c.args.number n (arc_value c.in_ok-tables.tables)) c.max-published.ensures
    (subst (λ b. Stands meta log b c.max-published.result (arc_value c.in_ok-tables.tables)) c.in_ok-base.ensures.base_cut c.in_ok-tables.ensures.stands)

pub returns-clause-latest : goal.returns-clause-latest
returns-clause-latest c = c.in_ok-tables.ensures.latest ∙ c.in_ok-over.ensures
