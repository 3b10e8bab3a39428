use Rattle.std.proofs.Common.{◌≡◌, ◌≤◌, ◌*◌, ◌^◌, unsigned_abs, take}
use Rattle.table_rows.specs.Values.{sum_of_samples}
use Rattle.table_rows.proofs.sums.sum_of.Given as goal

abbrev pub invariant-loop-sample : goal.invariant-loop-sample
invariant-loop-sample l = record {
  is : l.sum ≡ sum_of_samples (take l.sample-index l.samples);
  size : unsigned_abs l.sum.micros ≤ 2 ^ 63 * l.sum.count;
  plain : l.sum.plain ≤ l.sum.count;
  few : l.sum.count ≤ l.sample-index;
}
