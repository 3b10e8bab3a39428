use Rattle.dh_changes.specs.World.{facts}
use Rattle.table_build.specs.Events.{event_at}
use Rattle.table_build.proofs.NamedLemmas.{found-step}
use Rattle.table_build.proofs.events.rows_at.Goals as goal

pub loop-place-preserved : goal.loop-place-preserved
loop-place-preserved c =
    found-step (event_at c.args.meta.now (facts c.args.world.now)) c.args.places.now c.loop-place.place-index c.place-item.result c.in_ok-row.row _ _ _
    c.loop-place-test.true c.place-item.is c.in_ok-row.ensures c.in_ok-put_found.ensures c.loop-place.invariant
