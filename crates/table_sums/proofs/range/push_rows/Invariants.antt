use Rattle.std.proofs.Common.{◌≡◌, ◌++◌, take, drop}
use Rattle.table_sums.proofs.range.push_rows.Given as goal

abbrev pub invariant-loop-place : goal.invariant-loop-place
invariant-loop-place g l = l.found.items ≡ l.initial.found.items ++ drop l.low (take l.place l.rows)
