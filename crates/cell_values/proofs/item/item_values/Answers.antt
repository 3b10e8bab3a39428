use Rattle.std.proofs.Common.{◌≡◌, ◌∙◌, ap, List, get_or, length, sym, subst, arith}
use Rattle.std.proofs.lemmas.List.{take_all, get_or-map, length-map}
use Rattle.std.specs.Prelude.{Option, map}
use Rattle.dh_base.specs.Fractions.{Fraction}
use Rattle.table_rows.specs.Store.{Contents}
use Rattle.table_rows.specs.declared.row.Group.{Group}
use Rattle.cell_values.specs.Seen.{SeenRecords, seen_of, contents_of}
use Rattle.cell_values.specs.Plans.{planned_value, IsItemPlan, groups_inside}
use Rattle.cell_values.specs.declared.item.ItemPlan.{ItemPlan}
use Rattle.cell_values.proofs.PlanLemmas.{mapped-more}
use Rattle.cell_values.proofs.item.item_values.Goals as goal

pub loop-place-preserved : goal.loop-place-preserved
loop-place-preserved g c =
    let s = c.args.source.now.store.now in
    let held : Contents = contents_of (g.S.RowStore.rows s) (g.S.RowStore.events s) (g.S.RowStore.regs s) in
    let shown : SeenRecords = seen_of c.args.source.now.meta.now c.args.source.now.seer.now.user held in
    let f : ItemPlan → Option Fraction =
    planned_value c.args.source.now.meta.now shown c.args.periods.now c.args.units.now.units c.args.units.now.alone in
    mapped-more f c.args.plans.now c.loop-place.values.items c.push.new.self.items c.loop-place.place c.index-plans-place.result c.in_ok-value.value
    c.loop-place-test.true c.index-plans-place.is c.loop-place.invariant c.in_ok-push.ensures.items c.in_ok-value.ensures

pub bounds-groups-place : goal.bounds-groups-place
bounds-groups-place g c =
    let many : length c.args.groups.now ≡ length c.args.plans.now = ap length c.requires.groups
    ∙ length-map c.args.plans.now (groups_inside c.args.periods.now) in
    omega (arith, many)

pub item_value-requires-clause-plan : goal.item_value-requires-clause-plan
item_value-requires-clause-plan g c =
    let s = c.args.source.now.store.now in
    let held : Contents = contents_of (g.S.RowStore.rows s) (g.S.RowStore.events s) (g.S.RowStore.regs s) in
    subst (IsItemPlan c.args.source.now.meta.now c.args.source.now.seer.now.user held) (sym c.index-plans-place.is)
    (c.requires.plans c.loop-place.place c.index-plans-place.result c.loop-place-test.true)

pub item_value-requires-clause-groups : goal.item_value-requires-clause-groups
item_value-requires-clause-groups g c =
    let place = c.loop-place.place in
    let held : List Group = c.index-groups-place.result in
    let inside : ItemPlan → List Group = groups_inside c.args.periods.now in
    c.as_slice-inside.ensures ∙ c.index-groups-place.is
    ∙ ap (λ (all : List (List Group)). get_or all place held) c.requires.groups
    ∙ get_or-map inside c.args.plans.now place c.index-plans-place.result held c.loop-place-test.true
    ∙ ap inside (sym c.index-plans-place.is)

pub loop-place-init : goal.loop-place-init
loop-place-init g c = c.new-values.ensures.items

pub returns : goal.returns
returns g c =
    let s = c.args.source.now.store.now in
    let held : Contents = contents_of (g.S.RowStore.rows s) (g.S.RowStore.events s) (g.S.RowStore.regs s) in
    let shown : SeenRecords = seen_of c.args.source.now.meta.now c.args.source.now.seer.now.user held in
    c.loop-place.invariant
    ∙ ap (map (planned_value c.args.source.now.meta.now shown c.args.periods.now c.args.units.now.units c.args.units.now.alone))
    (take_all c.loop-place.place c.args.plans.now c.loop-place-test.false)
