use Rattle.std.proofs.Common.{length, ◌-◌, ◌<◌}
use Rattle.org_tree.specs.Levels.{Climbs}
use Rattle.org_tree.proofs.levels.first_endless.Given as goal

abbrev pub invariant-loop-steps : goal.invariant-loop-steps
invariant-loop-steps l = record { climbs : Climbs l.units l.steps l.jumps.items; positive : 0 < l.steps }

abbrev pub decreases-loop-steps : goal.decreases-loop-steps
decreases-loop-steps l = length l.units - l.steps
