use Rattle.std.proofs.Common.{◌≡◌, ℕ, ◌<◌, length, None}
use Rattle.std.specs.Prelude.{slice_index}
use Rattle.org_tree.specs.Count.{first_below}
use Rattle.org_tree.specs.Faults.{is_too_deep}
use Rattle.org_tree.specs.Levels.{HasLevel}
use Rattle.org_tree.proofs.levels.levels.Given as goal

abbrev pub invariant-loop-unit : goal.invariant-loop-unit
invariant-loop-unit l = record {
  count : length l.levels.items ≡ l.unit;
  each : (x : ℕ) → x < l.unit → HasLevel l.units x (slice_index l.levels.items x);
  none_deep : first_below (is_too_deep l.units) l.unit ≡ None;
}
