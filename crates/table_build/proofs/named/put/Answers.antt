use Rattle.table_build.proofs.NamedLemmas.{found-step}
use Rattle.table_build.proofs.named.put.Goals as goal

pub loop-write-preserved : goal.loop-write-preserved
loop-write-preserved g c =
    found-step g.T.Named.named c.args.writes.now c.loop-write.write-index c.write-item.result c.named_by.result _ _ _ c.loop-write-test.true
    c.write-item.is c.named_by.ensures c.in_ok-put_found.ensures c.loop-write.invariant
