use Rattle.std.proofs.Common.{◌∙◌, map, ap}
use Rattle.dh_base.specs.Fractions.{of_micros}
use Rattle.program_cells.proofs.MicroLemmas.{listed-value}
use Rattle.program_cells.proofs.micros.value_by_list.Goals as goal

pub returns : goal.returns
returns c =
    c.aggregate.ensures
    ∙ listed-value c.args.by c.args.list.now c.args.places.now c.in_ok-taken.taken.items c.deref-2.result.now c.in_ok-taken.ensures
    (c.deref-2.ensures.value ∙ c.in_ok-found.ensures ∙ ap (map (λ each. of_micros each)) c.deref.ensures.value)
