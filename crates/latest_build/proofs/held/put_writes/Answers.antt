use Rattle.std.proofs.Common.{refl}
use Rattle.dh_changes.specs.World.{facts}
use Rattle.table_build.proofs.NamedLemmas.{found-step}
use Rattle.latest_build.specs.Told.{held_by_write}
use Rattle.latest_build.proofs.held.put_writes.Goals as goal

pub loop-write-preserved : goal.loop-write-preserved
loop-write-preserved c = (
  found-step (held_by_write c.args.meta.now (facts c.args.world.now)) c.args.writes.now c.loop-write.write-index c.write-item.result _ _ _ _
      c.loop-write-test.true c.write-item.is refl c.in_ok-put_write.ensures.put c.loop-write.invariant.0,
  c.in_ok-put_write.ensures.last,
)
