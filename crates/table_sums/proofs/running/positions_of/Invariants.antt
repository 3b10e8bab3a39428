use Rattle.std.proofs.Common.{take}
use Rattle.table_sums.specs.Running.{ArePlaced}
use Rattle.table_sums.proofs.running.positions_of.Given as goal

abbrev pub invariant-loop-row : goal.invariant-loop-row
invariant-loop-row l = ArePlaced (take l.row-index l.rows) l.positions
