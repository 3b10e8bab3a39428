use Rattle.std.proofs.Common.{take}
use Rattle.cell_values.specs.Counts.{AreBegins}
use Rattle.cell_values.proofs.periods.periods_due.Given as goal

abbrev pub invariant-loop-period : goal.invariant-loop-period
invariant-loop-period l = AreBegins l.kind (take l.period-index l.periods) l.begins.items
