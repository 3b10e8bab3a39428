use Rattle.std.proofs.Common.{◌≡◌, [], drop}
use Rattle.table_rows.specs.Rows.{key_of}
use Rattle.table_rows.specs.Order.{key_cmp}
use Rattle.table_build.specs.Ordered.{put_all}
use Rattle.latest_build.proofs.held.ordered.Given as goal

abbrev pub invariant-loop-row : goal.invariant-loop-row
invariant-loop-row l = put_all key_cmp key_of [] l.rows ≡ put_all key_cmp key_of l.map.entries (drop l.row-index l.rows)
