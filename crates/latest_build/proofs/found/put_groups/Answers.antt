use Rattle.table_sums.specs.YearParts.{rows_together}
use Rattle.latest_build.specs.Found.{in_group_reached}
use Rattle.latest_build.proofs.TrackerLemmas.{gather-step}
use Rattle.latest_build.proofs.found.put_groups.Goals as goal

pub loop-group-preserved : goal.loop-group-preserved
loop-group-preserved c =
    gather-step (in_group_reached c.args.search.now.meta.now (rows_together c.args.search.now.base.now.parts) c.args.search.now.approval.now
    c.args.search.now.reach c.args.kind) c.args.groups.now c.loop-group.group-index c.group-item.result _ _ _ c.loop-group-test.true c.group-item.is
    c.loop-group.invariant c.in_ok-put_reached.ensures
