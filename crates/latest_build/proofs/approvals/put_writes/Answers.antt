use Rattle.table_build.proofs.NamedLemmas.{found-step}
use Rattle.latest_build.specs.Touches.{approval_named}
use Rattle.latest_build.proofs.approvals.put_writes.Goals as goal

pub loop-write-preserved : goal.loop-write-preserved
loop-write-preserved c =
    found-step approval_named c.args.writes.now c.loop-write.write-index c.write-item.result c.approval_named.result _ _ _ c.loop-write-test.true
    c.write-item.is c.approval_named.ensures c.in_ok-put_found.ensures c.loop-write.invariant
