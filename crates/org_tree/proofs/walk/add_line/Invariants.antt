use Rattle.std.proofs.Common.{◌≡◌, ◌+◌, ◌<◌, length, get_or, ℕ, Some}
use Rattle.std.specs.Option.{option_map_or}
use Rattle.org_tree.specs.Count.{count_below}
use Rattle.org_tree.specs.Units.{is_under, level_of}
use Rattle.org_tree.specs.Walk.{ahead_of}
use Rattle.org_tree.proofs.walk.add_line.Given as goal

-- what was counted, and what is still to be counted from here up
abbrev pub invariant-loop-at : goal.invariant-loop-at
invariant-loop-at l = record {
  in_range : (p : ℕ) → l.at ≡ Some p → p < length l.units;
  same_length : length l.sizes ≡ length l.units;
  each : (y : ℕ) → y < length l.units → get_or l.sizes y 0 + ahead_of l.units l.at y ≡ count_below (λ z. is_under l.units z y) (l.unit + 1);
}

abbrev pub decreases-loop-at : goal.decreases-loop-at
decreases-loop-at l = option_map_or (λ p. level_of l.units p) l.at 0
