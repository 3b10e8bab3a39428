use Rattle.std.proofs.Common.{◌≡◌, ◌++◌, drop}
use Rattle.table_build.specs.Placed.{rows_last}
use Rattle.table_build.proofs.placed.rows_last.Given as goal

abbrev pub invariant-loop-i : goal.invariant-loop-i
invariant-loop-i l = rows_last l.placed ≡ l.rows.items ++ rows_last (drop l.i l.placed)
