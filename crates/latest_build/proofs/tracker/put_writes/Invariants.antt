use Rattle.std.proofs.Common.{◌≡◌, ◌++◌, drop}
use Rattle.dh_changes.specs.World.{facts}
use Rattle.latest_build.specs.Touches.{events_touched}
use Rattle.latest_build.proofs.tracker.put_writes.Given as goal

abbrev pub invariant-loop-write : goal.invariant-loop-write
invariant-loop-write l =
    l.fn.ids.items ++ events_touched (facts l.world) l.writes ≡ l.ids.items ++ events_touched (facts l.world) (drop l.write-index l.writes)
