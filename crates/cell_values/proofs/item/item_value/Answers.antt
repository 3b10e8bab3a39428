use Rattle.std.proofs.Common.{◌≡◌, sym, subst, IfOk}
use Rattle.table_rows.specs.Store.{Contents}
use Rattle.cell_values.specs.Seen.{SeenRecords, seen_of, contents_of}
use Rattle.cell_values.specs.Plans.{IsWay}
use Rattle.cell_values.proofs.PlanLemmas.{item-operand, item-rate, item-other}
use Rattle.cell_values.proofs.item.item_value.Goals as goal

pub planned_value-requires-clause-plan : goal.planned_value-requires-clause-plan
planned_value-requires-clause-plan g c =
    let s = c.args.source.now.store.now in
    let held : Contents = contents_of (g.S.RowStore.rows s) (g.S.RowStore.events s) (g.S.RowStore.regs s) in
    (subst (IsWay c.args.source.now.meta.now c.args.source.now.seer.now.user held c.args.plan.now.item) c.in-Element.is c.requires.plan).0

pub returns-in-Element : goal.returns-in-Element
unfolding seen_of
returns-in-Element g c =
    let s = c.args.source.now.store.now in
    let held : Contents = contents_of (g.S.RowStore.rows s) (g.S.RowStore.events s) (g.S.RowStore.regs s) in
    let r = c.args.source.now.meta.now in
    let user = c.args.source.now.seer.now.user in
    let shown : SeenRecords = seen_of r user held in
    let asked = c.args.plan.now.item in
    let units = c.args.units.now in
    let way = subst (IsWay r user held asked) c.in-Element.is c.requires.plan in
    subst (λ v. IfOk c.planned_value.result (λ value. value ≡ v))
    (sym (item-operand r shown c.args.periods.now units.units units.alone asked c.in-Element.element.operand way.1)) c.planned_value.ensures

pub rate_value-requires-clause-plan : goal.rate_value-requires-clause-plan
rate_value-requires-clause-plan g c =
    let s = c.args.source.now.store.now in
    let held : Contents = contents_of (g.S.RowStore.rows s) (g.S.RowStore.events s) (g.S.RowStore.regs s) in
    (subst (IsWay c.args.source.now.meta.now c.args.source.now.seer.now.user held c.args.plan.now.item) c.in-Rate.is c.requires.plan).0

pub returns-in-Rate : goal.returns-in-Rate
unfolding seen_of
returns-in-Rate g c =
    let s = c.args.source.now.store.now in
    let held : Contents = contents_of (g.S.RowStore.rows s) (g.S.RowStore.events s) (g.S.RowStore.regs s) in
    let r = c.args.source.now.meta.now in
    let user = c.args.source.now.seer.now.user in
    let shown : SeenRecords = seen_of r user held in
    let asked = c.args.plan.now.item in
    let units = c.args.units.now in
    let way = subst (IsWay r user held asked) c.in-Rate.is c.requires.plan in
    subst (λ v. IfOk c.rate_value.result (λ value. value ≡ v))
    (sym (item-rate r shown c.args.periods.now units.units units.alone asked c.in-Rate.rate.asked way.1)) c.rate_value.ensures

pub returns-in-Other : goal.returns-in-Other
returns-in-Other g c =
    let s = c.args.source.now.store.now in
    let held : Contents = contents_of (g.S.RowStore.rows s) (g.S.RowStore.events s) (g.S.RowStore.regs s) in
    let r = c.args.source.now.meta.now in
    let user = c.args.source.now.seer.now.user in
    let shown : SeenRecords = seen_of r user held in
    let asked = c.args.plan.now.item in
    let units = c.args.units.now in
    let way = subst (IsWay r user held asked) c.in-Other.is c.requires.plan in
    subst (λ v. IfOk c.other_value.result (λ value. value ≡ v))
    (sym (item-other r shown c.args.periods.now units.units units.alone asked way.0 way.1)) c.other_value.ensures
