use Rattle.dh_changes.specs.World.{facts}
use Rattle.table_build.proofs.NamedLemmas.{found-step}
use Rattle.latest_build.specs.Held.{held_at}
use Rattle.latest_build.proofs.ToldLemmas.{told-holds}
use Rattle.latest_build.proofs.held.put_keys.Goals as goal

pub loop-key-preserved : goal.loop-key-preserved
loop-key-preserved c = (
  found-step (held_at c.args.meta.now (facts c.args.world.now)) c.args.keys.now c.loop-key.key-index c.key-item.result _ _ _ _
      c.loop-key-test.true c.key-item.is (told-holds c.args.meta.now (facts c.args.world.now) c.key-item.result _ c.value.ensures) c.in_ok-put_told.ensures.put
      c.loop-key.invariant.0,
  c.in_ok-put_told.ensures.last,
)
