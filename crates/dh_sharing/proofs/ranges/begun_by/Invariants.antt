use Rattle.std.proofs.Common.{ℕ, ◌<◌, ◌≤◌, ◌-◌, length, get_or}
use Rattle.dh_sharing.proofs.ranges.begun_by.Given as goal

abbrev pub invariant-loop-low : goal.invariant-loop-low
invariant-loop-low l = record {
  between : l.low ≤ l.high;
  most : l.high ≤ length l.parts;
  before : (i : ℕ) → i < l.low → (get_or l.parts i (0, 0)).0 ≤ l.order;
  beyond : (i : ℕ) → l.high ≤ i → i < length l.parts → l.order < (get_or l.parts i (0, 0)).0;
}

abbrev pub decreases-loop-low : goal.decreases-loop-low
decreases-loop-low l = l.high - l.low
