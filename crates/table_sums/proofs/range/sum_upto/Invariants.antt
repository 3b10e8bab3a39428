use Rattle.std.proofs.Common.{◌≡◌, ◌≤◌, ◌<◌, ◌+◌, ◌*◌, ◌^◌, ℕ, length}
use Rattle.std.specs.List.{filter}
use Rattle.table_rows.specs.Sums.{sum_of_rows, IsSized}
use Rattle.table_sums.specs.Parts.{is_upto}
use Rattle.table_sums.proofs.range.sum_upto.Given as goal

abbrev pub invariant-loop-position : goal.invariant-loop-position
invariant-loop-position g l = record {
  sum : l.sum ≡ sum_of_rows (filter (is_upto l.part l.position) l.list);
  size : IsSized l.sum;
  cost : (d : ℕ) → length l.list < 2 ^ d → l.steps ≤ l.initial.steps + 2 * d * l.position;
}
