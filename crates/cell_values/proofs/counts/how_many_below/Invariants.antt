use Rattle.std.proofs.Common.{ℕ, ◌<◌, ◌≤◌, ◌-◌, length, get_or}
use Rattle.cell_values.proofs.counts.how_many_below.Given as goal

abbrev pub invariant-loop-low : goal.invariant-loop-low
invariant-loop-low l = record {
  between : l.low ≤ l.high;
  most : l.high ≤ length l.numbers;
  before : (k : ℕ) → k < l.low → get_or l.numbers k 0 < l.end;
  after : (k : ℕ) → l.high ≤ k → k < length l.numbers → l.end ≤ get_or l.numbers k 0;
}

abbrev pub decreases-loop-low : goal.decreases-loop-low
decreases-loop-low l = l.high - l.low
