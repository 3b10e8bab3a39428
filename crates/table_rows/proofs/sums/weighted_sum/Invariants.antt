use Rattle.std.proofs.Common.{◌≡◌, ◌≤◌, ◌*◌, ◌^◌, unsigned_abs, take}
use Rattle.table_rows.specs.Samples.{numbered, weighted, total}
use Rattle.table_rows.proofs.sums.weighted_sum.Given as goal

abbrev pub invariant-loop-sample : goal.invariant-loop-sample
invariant-loop-sample l = record {
  is : l.sum ≡ total weighted (numbered (take l.sample-index l.samples));
  size : unsigned_abs l.sum ≤ 2 ^ 95 * l.sample-index;
}
