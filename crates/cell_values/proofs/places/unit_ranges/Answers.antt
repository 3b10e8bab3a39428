use Rattle.std.proofs.Common.{◌∙◌, ◌+◌, ℕ, take, get_or, sym, ap, subst}
use Rattle.std.proofs.lemmas.List.{take_all, get_or_default}
use Rattle.dh_sharing.specs.Ranges.{is_within}
use Rattle.cell_values.specs.Places.{AreOrdersAt}
use Rattle.cell_values.proofs.PlaceLemmas.{ranges-more}
use Rattle.cell_values.proofs.places.unit_ranges.Goals as goal

pub loop-unit-preserved : goal.loop-unit-preserved
loop-unit-preserved c =
    let units = c.args.units.now in
    let i = c.loop-unit.unit-index in
    let unit : ℕ = get_or units i 0 in
    subst (AreOrdersAt c.args.tree.now c.args.alone (take (i + 1) units)) (sym c.in_ok-push.ensures.items)
    (ranges-more c.args.tree.now c.args.alone units i unit c.loop-unit.ranges.items c.range_of.result c.loop-unit-test.true
    (get_or_default units i 0 unit c.loop-unit-test.true) c.loop-unit.invariant c.range_of.ensures)

pub returns : goal.returns
returns c =
    let are =
    subst (λ us. AreOrdersAt c.args.tree.now c.args.alone us c.loop-unit.ranges.items)
    (take_all c.loop-unit.unit-index c.args.units.now c.loop-unit-test.false) c.loop-unit.invariant in
    record { members = λ order. c.in_ok-joined.ensures.members.members order ∙ ap (λ v. is_within v order) c.deref.ensures.value ∙ are.members order }
