use Rattle.cell_values.specs.Reporting.{is_counted}
use Rattle.cell_values.proofs.ReportLemmas.{Step, reports_upto}
use Rattle.cell_values.proofs.reports.reports_of.Given as goal

abbrev pub invariant-loop-reg : goal.invariant-loop-reg
invariant-loop-reg l = Step (reports_upto (is_counted l.meta l.which l.set l.found) l.regs l.reg-index) l.reports.items
