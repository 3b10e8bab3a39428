use Rattle.std.proofs.Common.{◌∙◌, ◌++◌, ap}
use Rattle.std.specs.Arc.{arc_value}
use Rattle.dh_changes.specs.World.{facts}
use Rattle.latest_build.specs.Touches.{events_by, events_touched}
use Rattle.latest_build.proofs.TrackerLemmas.{gather-change}
use Rattle.latest_build.proofs.tracker.events_touched.Goals as goal

pub loop-change-preserved : goal.loop-change-preserved
loop-change-preserved c =
    gather-change arc_value (events_by (facts c.args.world.now)) c.args.changes.now c.loop-change.change-index c.change-item.result c.deref.result.now _ _ _
    c.loop-change-test.true c.change-item.is c.deref.ensures c.loop-change.invariant
    (c.in_ok-put_writes.ensures ∙ ap (λ ws. c.loop-change.ids.items ++ events_touched (facts c.args.world.now) ws) c.as_slice.ensures)
