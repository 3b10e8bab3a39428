use Rattle.std.proofs.Common.{◌≡◌, take, map}
use Rattle.std.specs.Arc.{arc_value}
use Rattle.dh_changes.specs.World.{facts}
use Rattle.dh_changes.specs.Facts.{facts_in}
use Rattle.table_build.specs.Log.{writes_of}
use Rattle.table_build.proofs.world.world_of.Given as goal

abbrev pub invariant-loop-change : goal.invariant-loop-change
invariant-loop-change l = facts l.world ≡ facts_in (writes_of (map arc_value (take l.change-index l.changes)))
