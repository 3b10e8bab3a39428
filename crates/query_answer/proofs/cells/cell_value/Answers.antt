use Rattle.std.proofs.Common.{◌≡◌, subst, IfOk}
use Rattle.table_rows.specs.Store.{Contents}
use Rattle.table_rows.specs.Events.{regs_of}
use Rattle.cell_values.proofs.ReportingLemmas.{prepared}
use Rattle.cell_values.specs.Seen.{seen_regs, seen_of, contents_of}
use Rattle.query_answer.specs.Plans.{IsPlan, plan_in, ArePlanGroups}
use Rattle.query_answer.proofs.AskedLemmas.{indicator_there}
use Rattle.query_answer.proofs.PlanLemmas.{element-cell, indicator-cell, rate-cell, program-cell}
use Rattle.query_answer.proofs.cells.cell_value.Goals as goal

pub planned_value-requires-clause-plan : goal.planned_value-requires-clause-plan
planned_value-requires-clause-plan g c =
    let s = c.args.source.now.store.now in
    let held : Contents = contents_of (g.S.RowStore.rows s) (g.S.RowStore.events s) (g.S.RowStore.regs s) in
    (subst (λ g. IsPlan c.args.source.now.meta.now c.args.source.now.seer.now.user held c.args.dx.now (plan_in g)) c.in-Element.is c.requires.plan).1.0

pub returns-in-Element : goal.returns-in-Element
returns-in-Element g c =
    let s = c.args.source.now.store.now in
    let held : Contents = contents_of (g.S.RowStore.rows s) (g.S.RowStore.events s) (g.S.RowStore.regs s) in
    let r = c.args.source.now.meta.now in
    let user = c.args.source.now.seer.now.user in
    let units = c.args.unit.now.units in
    let is = subst (λ g. IsPlan r user held c.args.dx.now (plan_in g)) c.in-Element.is c.requires.plan in
    subst (λ v. IfOk c.from_found.result (λ cell. cell ≡ v))
    (element-cell r user held c.args.dx.now c.in-Element.plan.now.operand c.args.periods.now units.units units.alone is.0 is.1.1 c.requires.unit.alone)
    (c.from_found.ensures _ c.planned_value.ensures)

pub indicator-indicator-requires : goal.indicator-indicator-requires
indicator-indicator-requires g c =
    let s = c.args.source.now.store.now in
    let held : Contents = contents_of (g.S.RowStore.rows s) (g.S.RowStore.events s) (g.S.RowStore.regs s) in
    indicator_there c.args.source.now.meta.now c.args.dx.now c.requires.dx
    (subst (λ g. IsPlan c.args.source.now.meta.now c.args.source.now.seer.now.user held c.args.dx.now (plan_in g)) c.in-Indicator.is c.requires.plan).0

pub indicator_cell-requires-clause-plan : goal.indicator_cell-requires-clause-plan
indicator_cell-requires-clause-plan g c =
    let s = c.args.source.now.store.now in
    let held : Contents = contents_of (g.S.RowStore.rows s) (g.S.RowStore.events s) (g.S.RowStore.regs s) in
    (subst (λ g. IsPlan c.args.source.now.meta.now c.args.source.now.seer.now.user held c.args.dx.now (plan_in g)) c.in-Indicator.is c.requires.plan).1
    c.indicator-indicator.result.now c.indicator-indicator.ensures.value

pub returns-in-Indicator : goal.returns-in-Indicator
returns-in-Indicator g c =
    let s = c.args.source.now.store.now in
    let held : Contents = contents_of (g.S.RowStore.rows s) (g.S.RowStore.events s) (g.S.RowStore.regs s) in
    let r = c.args.source.now.meta.now in
    let user = c.args.source.now.seer.now.user in
    let units = c.args.unit.now.units in
    let is = subst (λ g. IsPlan r user held c.args.dx.now (plan_in g)) c.in-Indicator.is c.requires.plan in
    subst (λ v. IfOk c.indicator_cell.result (λ cell. cell ≡ v))
    (indicator-cell r (seen_of r user held) c.args.dx.now c.indicator-indicator.result.now c.args.periods.now units.units is.0
    c.indicator-indicator.ensures.value)
    c.indicator_cell.ensures

pub planned_rate-requires-clause-plan : goal.planned_rate-requires-clause-plan
planned_rate-requires-clause-plan g c =
    let s = c.args.source.now.store.now in
    let held : Contents = contents_of (g.S.RowStore.rows s) (g.S.RowStore.events s) (g.S.RowStore.regs s) in
    (subst (λ g. IsPlan c.args.source.now.meta.now c.args.source.now.seer.now.user held c.args.dx.now (plan_in g)) c.in-Rate.is c.requires.plan).1.0

pub planned_rate-requires-clause-due : goal.planned_rate-requires-clause-due
planned_rate-requires-clause-due g c =
    let s = c.args.source.now.store.now in
    let r = c.args.source.now.meta.now in
    let user = c.args.source.now.seer.now.user in
    let held : Contents = contents_of (g.S.RowStore.rows s) (g.S.RowStore.events s) (g.S.RowStore.regs s) in
    let plan = c.in-Rate.plan.now in
    let is = subst (λ g. IsPlan r user held c.args.dx.now (plan_in g)) c.in-Rate.is c.requires.plan in
    let due = subst (ArePlanGroups r user held c.args.periods.now) c.in-Rate.is c.requires.groups in
    prepared r plan.asked.which plan.asked.set (seen_regs r user (regs_of plan.asked.set held.regs)) c.args.periods.now plan.reports c.in-Rate.due
    is.1.0 due

pub returns-in-Rate : goal.returns-in-Rate
returns-in-Rate g c =
    let s = c.args.source.now.store.now in
    let held : Contents = contents_of (g.S.RowStore.rows s) (g.S.RowStore.events s) (g.S.RowStore.regs s) in
    let r = c.args.source.now.meta.now in
    let user = c.args.source.now.seer.now.user in
    let units = c.args.unit.now.units in
    let plan = c.in-Rate.plan.now in
    let is = subst (λ g. IsPlan r user held c.args.dx.now (plan_in g)) c.in-Rate.is c.requires.plan in
    let due = subst (ArePlanGroups r user held c.args.periods.now) c.in-Rate.is c.requires.groups in
    subst (λ v. IfOk c.from_found-in-Rate.result (λ cell. cell ≡ v))
    (rate-cell r user held c.args.dx.now plan.asked c.args.periods.now units.units units.alone is.0 is.1.1 c.requires.unit.alone)
    (c.from_found-in-Rate.ensures _ (c.planned_rate.ensures c.args.periods.now due))

pub returns-in-Program : goal.returns-in-Program
returns-in-Program g c =
    let s = c.args.source.now.store.now in
    let r = c.args.source.now.meta.now in
    let user = c.args.source.now.seer.now.user in
    let held : Contents = contents_of (g.S.RowStore.rows s) (g.S.RowStore.events s) (g.S.RowStore.regs s) in
    let dx = c.args.dx.now in
    let is = subst (λ g. IsPlan r user held dx (plan_in g)) c.in-Program.is c.requires.plan in
    let subjects = subst (ArePlanGroups r user held c.args.periods.now) c.in-Program.is c.requires.groups in
    subst (λ v. IfOk c.from_program.result (λ cell. cell ≡ v)) (program-cell r user held dx c.args.periods.now c.args.unit.now.units.units is.0)
    (c.from_program.ensures _ (c.value.ensures r user dx.number c.args.periods.now held.events is.1 subjects c.requires.unit.units c.requires.unit.alone))
