use Rattle.std.proofs.Common.{◌≡◌, take, false}
use Rattle.std.specs.List.{list_any}
use Rattle.table_rows.specs.Rows.{same_place}
use Rattle.table_rows.proofs.checks.is_placed_again.Given as goal

abbrev pub invariant-loop-other : goal.invariant-loop-other
invariant-loop-other l = list_any (same_place l.row) (take l.other-index l.later) ≡ false
