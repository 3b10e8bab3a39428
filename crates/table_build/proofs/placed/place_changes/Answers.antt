use Rattle.std.proofs.Common.{◌∙◌, ◌++◌, ap}
use Rattle.std.specs.Arc.{arc_value}
use Rattle.std.specs.List.{filter_map}
use Rattle.dh_changes.specs.World.{facts}
use Rattle.table_build.specs.Placed.{placed_by}
use Rattle.table_build.proofs.PlacedLemmas.{placed-step}
use Rattle.table_build.proofs.placed.place_changes.Goals as goal

pub loop-change-preserved : goal.loop-change-preserved
loop-change-preserved c =
    c.loop-change.invariant
    ∙ placed-step arc_value (placed_by c.args.meta.now (facts c.args.world.now) c.args.year.now) c.args.changes.now c.loop-change.change-index
    c.change-item.result c.deref.result.now c.loop-change.placed.items c.place_writes.new.placed.items c.loop-change-test.true
    c.change-item.is c.deref.ensures (c.in_ok-place_writes.ensures
    ∙ ap (λ ws. c.loop-change.placed.items ++ filter_map (placed_by c.args.meta.now (facts c.args.world.now) c.args.year.now) ws) c.as_slice.ensures)
