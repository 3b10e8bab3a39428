use Rattle.table_sums.specs.YearParts.{rows_together}
use Rattle.latest_build.specs.Found.{found_by}
use Rattle.latest_build.proofs.TrackerLemmas.{gather-step}
use Rattle.latest_build.proofs.found.found.Goals as goal

pub loop-approval-preserved : goal.loop-approval-preserved
loop-approval-preserved c =
    gather-step (found_by c.args.meta.now (rows_together c.args.base.now.parts)) c.args.approvals.now c.loop-approval.approval-index c.approval-item.result
    _ _ _
    c.loop-approval-test.true c.approval-item.is c.loop-approval.invariant c.in_ok-put_approval.ensures
