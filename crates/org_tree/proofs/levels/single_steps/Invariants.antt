use Rattle.std.proofs.Common.{◌≡◌, ℕ, ◌<◌, length}
use Rattle.org_tree.specs.Units.{parent_of}
use Rattle.org_tree.specs.Levels.{jump}
use Rattle.org_tree.proofs.levels.single_steps.Given as goal

abbrev pub invariant-loop-unit : goal.invariant-loop-unit
invariant-loop-unit l = record {
  count : length l.jumps.items ≡ l.unit;
  each : (x : ℕ) → x < l.unit → jump l.jumps.items x ≡ parent_of l.units x;
}
