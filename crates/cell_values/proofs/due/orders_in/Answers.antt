use Rattle.std.proofs.Common.{◌∙◌, sym, ap, subst}
use Rattle.std.proofs.lemmas.List.{take_all}
use Rattle.cell_values.specs.Prepared.{AreOrders}
use Rattle.cell_values.proofs.ReportingLemmas.{orders_upto, orders-more, orders-sorted}
use Rattle.cell_values.proofs.due.orders_in.Goals as goal

pub loop-report-preserved : goal.loop-report-preserved
loop-report-preserved c =
    orders-more c.args.periods.now c.args.reports.now c.loop-report.orders.items c.push_if.new.list.items c.loop-report.report-index c.report-item.result
    c.is_in_some-lies.result c.loop-report-test.true c.report-item.is c.loop-report.invariant c.in_ok-push_if.ensures c.is_in_some-lies.ensures

pub returns : goal.returns
returns c =
    subst (AreOrders c.args.periods.now c.args.reports.now) (sym c.from.ensures)
    (orders-sorted c.args.periods.now c.args.reports.now c.loop-report.orders.items c.sort.new.self.items
    (c.loop-report.invariant ∙ ap (orders_upto c.args.periods.now) (take_all c.loop-report.report-index c.args.reports.now c.loop-report-test.false))
    c.in_ok-sort.ensures.permutation c.in_ok-sort.ensures.sorted)
