use Rattle.std.proofs.Common.{◌≡◌, false, take}
use Rattle.program_cells.specs.Cells.{is_on_some}
use Rattle.program_cells.proofs.days.is_on_some.Given as goal

abbrev pub invariant-loop-period : goal.invariant-loop-period
invariant-loop-period l = is_on_some (take l.period-index l.periods) l.day ≡ false
