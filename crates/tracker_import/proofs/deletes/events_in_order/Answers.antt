use Rattle.std.proofs.Common.{[], ◌∙◌}
use Rattle.dh_changes.specs.World.{facts}
use Rattle.tracker_import.specs.Deletes.{events_left, put_ids}
use Rattle.tracker_import.proofs.PairLemmas.{put_ids-more}
use Rattle.std.specs.List.{flat_map}
use Rattle.tracker_import.proofs.deletes.events_in_order.Goals as goal

pub loop-enrollment-preserved : goal.loop-enrollment-preserved
loop-enrollment-preserved c =
    let f = events_left (facts c.args.world.now) c.args.batch.now.verdict.writes in
    put_ids-more f c.args.enrollments.now (put_ids [] (flat_map f c.args.enrollments.now)) c.loop-enrollment.all.entries c.put_ids.new.all.entries
    c.as_slice.result.now c.loop-enrollment.enrollment-index c.enrollment-item.result c.loop-enrollment-test.true c.enrollment-item.is
    c.loop-enrollment.invariant (c.as_slice.ensures ∙ c.in_ok-events.ensures) c.in_ok-put_ids.ensures
