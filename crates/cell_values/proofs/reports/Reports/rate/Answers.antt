use Rattle.std.proofs.Common.{◌∙◌, List, ap, subst}
use Rattle.org_tree.specs.Units.{UnitRow}
use Rattle.cell_values.specs.Places.{AreOrdersAt}
use Rattle.cell_values.specs.Prepared.{rate_within}
use Rattle.cell_values.proofs.ReportingLemmas.{rate-is}
use Rattle.cell_values.proofs.reports.Reports.rate.Goals as goal

pub returns : goal.returns
returns c = λ which set regs periods are due_is.
    c.rate_in.ensures
    ∙ ap (rate_within c.args.self.now.which c.args.self.now.assigned c.args.due.now.periods c.args.due.now.orders) c.parts.ensures.parts
    ∙ rate-is c.args.meta.now which set regs periods c.args.units.now c.args.alone c.args.self.now c.args.due.now c.in_ok-asked.asked are due_is
    (subst (λ (us : List UnitRow). AreOrdersAt us c.args.alone c.args.units.now c.in_ok-asked.asked) c.tree.ensures c.in_ok-asked.ensures)
