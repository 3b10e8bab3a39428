use Rattle.std.proofs.Common.{◌≡◌, ◌≤◌, List, ℕ, length, map, sym, subst, arith}
use Rattle.std.specs.Prelude.{IfOk}
use Rattle.std.proofs.lemmas.Bool.{leb-true}
use Rattle.table_rows.specs.Cells.{gathered}
use Rattle.table_rows.specs.Sums.{sum_over}
use Rattle.table_rows.proofs.StoreLemmas.{store-holds, true_from}
use Rattle.table_rows.specs.RowSamples.{sample_of}
use Rattle.cell_values.specs.Held.{AreSeenOrders}
use Rattle.cell_values.specs.Parts.{is_group_asked, group_sum, ranged_rows, HaveOwnKeys}
use Rattle.cell_values.proofs.GlueLemmas.{gathered-few}
use Rattle.cell_values.proofs.OwnKeyLemmas.{own-samples}
use Rattle.cell_values.proofs.PartLemmas.{groups_sum-few}
use Rattle.cell_values.proofs.PlanLemmas.{plan-asked, element-planned}
use Rattle.cell_values.proofs.element.planned_value.Goals as goal

pub value_in-requires-clause-few : goal.value_in-requires-clause-few
value_in-requires-clause-few g c =
    let s = c.args.source.now.store.now in
    let holds =
    store-holds (g.S.RowStore.rows s) (g.S.RowStore.events s) (g.S.RowStore.regs s) (g.S.RowStore.built s) (true_from _ c.years-years.ensures.store) in
    leb-true (length (g.S.RowStore.rows s)) 4194304 holds.few_rows

pub value_in-requires-clause-all : goal.value_in-requires-clause-all
value_in-requires-clause-all g c =
    let s = c.args.source.now.store.now in
    let rows = g.S.RowStore.rows s in
    let holds = store-holds rows (g.S.RowStore.events s) (g.S.RowStore.regs s) (g.S.RowStore.built s) (true_from _ c.years-years.ensures.store) in
    let few : length rows ≤ 4194304 = leb-true (length rows) 4194304 holds.few_rows in
    let r = c.args.source.now.meta.now in
    let user = c.args.source.now.seer.now.user in
    let plan = c.args.plan.now in
    let t = is_group_asked r user plan.operand.combo plan.operand.attribute c.args.periods.now in
    let ranges = c.parts-ranges.result.now in
    let short = groups_sum-few plan.operand.element t plan.need ranges rows c.parts-ranges.ensures.apart in
    subst (λ gs. (sum_over (group_sum rows plan.need ranges) gs).count ≤ 4194304)
    (sym (plan-asked r user rows plan c.args.periods.now c.args.groups.now c.requires.plan c.requires.groups)) (omega (arith, short, few))

pub value_in-requires-clause-found : goal.value_in-requires-clause-found
value_in-requires-clause-found g c =
    let s = c.args.source.now.store.now in
    let rows = g.S.RowStore.rows s in
    let holds = store-holds rows (g.S.RowStore.events s) (g.S.RowStore.regs s) (g.S.RowStore.built s) (true_from _ c.years-years.ensures.store) in
    let few : length rows ≤ 4194304 = leb-true (length rows) 4194304 holds.few_rows in
    let r = c.args.source.now.meta.now in
    let user = c.args.source.now.seer.now.user in
    let plan = c.args.plan.now in
    let t = is_group_asked r user plan.operand.combo plan.operand.attribute c.args.periods.now in
    let ranges = c.parts-ranges.result.now in
    let short = gathered-few plan.operand.element t plan.need ranges rows holds.rows_rise c.parts-ranges.ensures.apart in
    subst (λ gs. length (gathered (ranged_rows rows plan.need ranges) gs) ≤ 4194304)
    (sym (plan-asked r user rows plan c.args.periods.now c.args.groups.now c.requires.plan c.requires.groups)) (omega (arith, short, few))

pub value_in-requires-clause-own_keys : goal.value_in-requires-clause-own_keys
value_in-requires-clause-own_keys g c =
    let s = c.args.source.now.store.now in
    let rows = g.S.RowStore.rows s in
    let holds = store-holds rows (g.S.RowStore.events s) (g.S.RowStore.regs s) (g.S.RowStore.built s) (true_from _ c.years-years.ensures.store) in
    let r = c.args.source.now.meta.now in
    let user = c.args.source.now.seer.now.user in
    let plan = c.args.plan.now in
    let t = is_group_asked r user plan.operand.combo plan.operand.attribute c.args.periods.now in
    let ranges = c.parts-ranges.result.now in
    subst (λ gs. HaveOwnKeys (map sample_of (gathered (ranged_rows rows plan.need ranges) gs)))
    (sym (plan-asked r user rows plan c.args.periods.now c.args.groups.now c.requires.plan c.requires.groups))
    (own-samples plan.operand.element t plan.need ranges rows holds.rows_rise c.parts-ranges.ensures.apart holds.own_places)

pub returns : goal.returns
returns g c =
    let s = c.args.source.now.store.now in
    let rows = g.S.RowStore.rows s in
    let holds = store-holds rows (g.S.RowStore.events s) (g.S.RowStore.regs s) (g.S.RowStore.built s) (true_from _ c.years-years.ensures.store) in
    let r = c.args.source.now.meta.now in
    let user = c.args.source.now.seer.now.user in
    let units = c.args.units.now in
    let ranges = c.parts-ranges.result.now in
    let are : AreSeenOrders r user units.alone units.units ranges =
    subst (λ (v : List (ℕ × ℕ)). AreSeenOrders r user units.alone units.units v) (sym c.parts-ranges.ensures.parts) c.requires.units.seen in
    subst (λ v. IfOk c.value_in.result (λ value. value ≡ v))
    (element-planned r user rows c.args.plan.now c.args.periods.now c.args.groups.now units.units units.alone ranges c.days-days.result
    holds.rows_rise c.parts-ranges.ensures.apart are c.requires.plan c.requires.groups c.days-days.ensures.value)
    c.value_in.ensures
