use Rattle.std.proofs.Common.{◌≡◌, ◌-◌, drop}
use Rattle.table_rows.specs.Order.{row_cmp}
use Rattle.table_rows.specs.Store.{rises}
use Rattle.latest_build.proofs.held.rise.Given as goal

abbrev pub invariant-loop-i : goal.invariant-loop-i
invariant-loop-i l = rises row_cmp l.rows ≡ rises row_cmp (drop (l.i - 1) l.rows)
