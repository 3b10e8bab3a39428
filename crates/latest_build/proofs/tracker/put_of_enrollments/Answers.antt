use Rattle.dh_changes.specs.World.{facts}
use Rattle.latest_build.proofs.TrackerLemmas.{gather-step}
use Rattle.latest_build.proofs.tracker.put_of_enrollments.Goals as goal

pub loop-enrollment-preserved : goal.loop-enrollment-preserved
loop-enrollment-preserved c =
    gather-step (facts c.args.world.now).events_of c.args.enrollments.now c.loop-enrollment.enrollment-index c.enrollment-item.result _ _ _
    c.loop-enrollment-test.true c.enrollment-item.is c.loop-enrollment.invariant c.in_ok-put_of_enrollment.ensures
