use Rattle.std.proofs.Common.{take}
use Rattle.cell_values.specs.Spans.{AreDayRanges}
use Rattle.cell_values.proofs.period_days.days.Given as goal

abbrev pub invariant-loop-period : goal.invariant-loop-period
invariant-loop-period l = AreDayRanges (take l.period-index l.periods) l.ranges.items
