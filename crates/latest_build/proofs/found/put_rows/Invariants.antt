use Rattle.std.proofs.Common.{◌≡◌, ◌++◌, drop}
use Rattle.std.specs.List.{filter_map}
use Rattle.latest_build.specs.Found.{key_at}
use Rattle.latest_build.proofs.found.put_rows.Given as goal

abbrev pub invariant-loop-row : goal.invariant-loop-row
invariant-loop-row l = l.fn.keys.items ++ filter_map (key_at l.meta) l.rows ≡ l.keys.items ++ filter_map (key_at l.meta) (drop l.row-index l.rows)
