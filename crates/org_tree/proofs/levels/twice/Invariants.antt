use Rattle.std.proofs.Common.{◌≡◌, ℕ, ◌<◌, length}
use Rattle.std.specs.Prelude.{option_and_then}
use Rattle.org_tree.specs.Levels.{jump}
use Rattle.org_tree.proofs.levels.twice.Given as goal

abbrev pub invariant-loop-from : goal.invariant-loop-from
invariant-loop-from l = record {
  count : length l.double.items ≡ l.from;
  each : (x : ℕ) → x < l.from → jump l.double.items x ≡ option_and_then (λ p. jump l.jumps p) (jump l.jumps x);
}
