use Rattle.std.proofs.Common.{◌≡◌, ◌++◌, drop}
use Rattle.latest_build.specs.Held.{rows_last}
use Rattle.latest_build.proofs.held.rows_last.Given as goal

abbrev pub invariant-loop-i : goal.invariant-loop-i
invariant-loop-i l = rows_last l.held ≡ l.rows.items ++ rows_last (drop l.i l.held)
