use Rattle.std.proofs.Common.{◌≡◌}
use Rattle.dh_changes.specs.World.{facts}
use Rattle.dh_approvals.specs.Units.{nearest_above}
use Rattle.dh_approvals.proofs.units.nearest_above.Given as goal

abbrev pub invariant-loop-left : goal.invariant-loop-left
invariant-loop-left l =
    nearest_above (facts l.asking.world.now) l.asking.meta.now l.asking.scope l.levels l.unit l.position
    ≡ nearest_above (facts l.asking.world.now) l.asking.meta.now l.asking.scope l.levels l.unit l.left

abbrev pub decreases-loop-left : goal.decreases-loop-left
decreases-loop-left l = l.left
