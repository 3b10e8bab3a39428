use Rattle.std.proofs.Common.{ap, is_some, ◌∙◌}
use Rattle.dh_changes.specs.World.{facts}
use Rattle.tracker_import.specs.Known.{enrollment_now}
use Rattle.tracker_import.proofs.LoopLemmas.{kept-more}
use Rattle.tracker_import.proofs.deletes.enrollments_left.Goals as goal

pub loop-id-preserved : goal.loop-id-preserved
loop-id-preserved c =
    kept-more (λ id. is_some (enrollment_now (facts c.args.world.now) c.args.batch.now.verdict.writes id)) c.as_slice-id-items.result.now c.loop-id.left
    c.keep_if.new.kept c.loop-id.id-index c.id-item.result c.is_some.result c.loop-id-test.true c.id-item.is c.loop-id.invariant c.in_ok-keep_if.ensures
    (c.is_some.ensures ∙ ap is_some c.enrollment_now.ensures)
