use Rattle.std.proofs.Common.{◌≡◌, take}
use Rattle.cell_values.proofs.ReportingLemmas.{orders_upto}
use Rattle.cell_values.proofs.due.orders_in.Given as goal

abbrev pub invariant-loop-report : goal.invariant-loop-report
invariant-loop-report l = l.orders.items ≡ orders_upto l.periods (take l.report-index l.reports)
