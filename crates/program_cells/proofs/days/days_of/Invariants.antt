use Rattle.std.proofs.Common.{take}
use Rattle.program_cells.specs.Days.{Cover}
use Rattle.program_cells.proofs.days.days_of.Given as goal

abbrev pub invariant-loop-period : goal.invariant-loop-period
invariant-loop-period l = Cover (take l.period-index l.periods) l.days
