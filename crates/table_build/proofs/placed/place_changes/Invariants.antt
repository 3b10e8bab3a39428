use Rattle.std.proofs.Common.{◌≡◌, ◌++◌, drop, map}
use Rattle.std.specs.Arc.{arc_value}
use Rattle.std.specs.List.{filter_map}
use Rattle.dh_changes.specs.World.{facts}
use Rattle.table_build.specs.Log.{writes_of}
use Rattle.table_build.specs.Placed.{placed_by}
use Rattle.table_build.proofs.placed.place_changes.Given as goal

abbrev pub invariant-loop-change : goal.invariant-loop-change
invariant-loop-change l =
    filter_map (placed_by l.meta (facts l.world) l.year) (writes_of (map arc_value l.changes))
    ≡ l.placed.items ++ filter_map (placed_by l.meta (facts l.world) l.year) (writes_of (map arc_value (drop l.change-index l.changes)))
