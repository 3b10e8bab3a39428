use Rattle.std.proofs.Common.{◌∙◌, ◌++◌, ap}
use Rattle.std.specs.Arc.{arc_value}
use Rattle.std.specs.List.{filter_map}
use Rattle.dh_changes.specs.World.{facts}
use Rattle.table_build.proofs.NamedLemmas.{named-step}
use Rattle.latest_build.specs.Told.{held_by_write}
use Rattle.latest_build.proofs.held.put_changes.Goals as goal

pub loop-change-preserved : goal.loop-change-preserved
loop-change-preserved c = (
  named-step arc_value (held_by_write c.args.meta.now (facts c.args.world.now)) c.args.changes.now c.loop-change.change-index c.change-item.result
      c.deref.result.now _ _ _ c.loop-change-test.true c.change-item.is c.deref.ensures c.loop-change.invariant.0
      (c.in_ok-put_writes.ensures.put
      ∙ ap (λ ws. c.loop-change.held.items ++ filter_map (held_by_write c.args.meta.now (facts c.args.world.now)) ws) c.as_slice.ensures),
  c.in_ok-put_writes.ensures.last,
)
