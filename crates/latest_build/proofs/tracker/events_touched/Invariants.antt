use Rattle.std.proofs.Common.{◌≡◌, ◌++◌, drop, map}
use Rattle.std.specs.Arc.{arc_value}
use Rattle.dh_changes.specs.World.{facts}
use Rattle.table_build.specs.Log.{writes_of}
use Rattle.latest_build.specs.Touches.{events_touched}
use Rattle.latest_build.proofs.tracker.events_touched.Given as goal

abbrev pub invariant-loop-change : goal.invariant-loop-change
invariant-loop-change l =
    events_touched (facts l.world) (writes_of (map arc_value l.changes))
    ≡ l.ids.items ++ events_touched (facts l.world) (writes_of (map arc_value (drop l.change-index l.changes)))
