use Rattle.std.proofs.Common.{◌≡◌, ◌++◌, drop}
use Rattle.std.specs.List.{filter_map}
use Rattle.dh_changes.specs.World.{facts}
use Rattle.table_build.specs.Placed.{placed_by}
use Rattle.table_build.proofs.placed.place_writes.Given as goal

abbrev pub invariant-loop-write : goal.invariant-loop-write
invariant-loop-write l =
    l.fn.placed.items ++ filter_map (placed_by l.meta (facts l.world) l.year) l.writes
    ≡ l.placed.items ++ filter_map (placed_by l.meta (facts l.world) l.year) (drop l.write-index l.writes)
