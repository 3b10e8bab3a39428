use Rattle.dh_changes.specs.World.{facts}
use Rattle.latest_build.specs.Touches.{events_by}
use Rattle.latest_build.proofs.TrackerLemmas.{gather-step}
use Rattle.latest_build.proofs.tracker.put_writes.Goals as goal

pub loop-write-preserved : goal.loop-write-preserved
loop-write-preserved c =
    gather-step (events_by (facts c.args.world.now)) c.args.writes.now c.loop-write.write-index c.write-item.result _ _ _ c.loop-write-test.true
    c.write-item.is c.loop-write.invariant c.in_ok-put_write.ensures
