use Rattle.std.proofs.Common.{◌≡◌, ◌∙◌, ℕ, List, Some, length, sym, subst, ap}
use Rattle.std.specs.Prelude.{option_and_then, option_map}
use Rattle.dh_metadata.specs.declared.records.UnitGroup.{UnitGroup}
use Rattle.dh_metadata.specs.Linked.{AreBelow}
use Rattle.dh_sharing.specs.Ranges.{AreApart}
use Rattle.cell_values.specs.Places.{AreOrdersAt}
use Rattle.cell_values.specs.Counts.{covered}
use Rattle.cell_values.specs.Reporting.{whole}
use Rattle.cell_values.specs.Items.{units_in, group_value}
use Rattle.cell_values.proofs.UnitLemmas.{units-counted}
use Rattle.cell_values.proofs.item.group_item.Goals as goal

pub returns : goal.returns
returns c =
    let r = c.args.meta.now in
    let units = c.args.units.now in
    let group : UnitGroup = c.unit_group-group.result.now in
    let own : List ℕ = c.as_slice.result.now in
    let count : c.covered.result ≡ units_in r own units.units units.alone =
    c.covered.ensures ∙ ap covered c.parts.ensures.parts
    ∙ units-counted r own units.units units.alone c.tree-tree.result.now c.in_ok-own.own units.asked c.in_ok-both.both
    c.tree-tree.ensures.value c.count-units.ensures.tree
    (subst (AreBelow (length r.organisation_units)) (sym c.as_slice.ensures) c.unit_group-group.ensures.linked) c.in_ok-own.ensures
    (subst (λ us. AreOrdersAt us units.alone units.units units.asked) (sym c.tree-tree.ensures.value) c.requires.units.asked) c.in_ok-both.ensures
    (subst AreApart c.parts.ensures.parts c.parts.ensures.apart) in
    ap Some (c.whole.ensures ∙ ap whole (c.from.ensures ∙ count ∙ ap (λ us. units_in r us units.units units.alone) c.as_slice.ensures))
    ∙ ap (option_map (λ (g : UnitGroup). whole (units_in r g.organisation_units units.units units.alone))) (sym c.unit_group-group.ensures.value)
    ∙ ap (option_and_then (λ n. group_value r n units.units units.alone)) (sym (sym c.find.ensures.value ∙ c.in-Some.is))
