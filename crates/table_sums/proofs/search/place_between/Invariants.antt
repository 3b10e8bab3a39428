use Rattle.std.proofs.Common.{◌≡◌, ℕ, ◌<◌, ◌≤◌, ◌-◌, ◌^◌, true, false, length, get_or}
use Rattle.table_rows.specs.declared.row.Row.{Row}
use Rattle.table_sums.specs.declared.search.Bound.TheVariants as bound
use Rattle.table_sums.specs.Bounds.{is_before}
use Rattle.table_sums.proofs.BoundLemmas.{Left}
use Rattle.table_sums.proofs.search.place_between.Given as goal

abbrev pub invariant-loop-low : goal.invariant-loop-low
invariant-loop-low g l = record {
  from : l.first ≤ l.low;
  between : l.low ≤ l.high;
  to : l.high ≤ l.end;
  before : (k : ℕ) (d : Row) → k < l.low → is_before (bound.Key l.key) (get_or l.rows k d) ≡ true;
  after : (k : ℕ) (d : Row) → l.high ≤ k → k < length l.rows → is_before (bound.Key l.key) (get_or l.rows k d) ≡ false;
  cost : (d : ℕ) → l.end - l.first < 2 ^ d → Left l.initial.steps l.steps d (l.high - l.low);
}

abbrev pub decreases-loop-low : goal.decreases-loop-low
decreases-loop-low g l = l.high - l.low
