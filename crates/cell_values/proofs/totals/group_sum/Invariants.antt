use Rattle.std.proofs.Common.{◌≤◌, ◌*◌, ◌^◌, unsigned_abs}
use Rattle.cell_values.specs.Parts.{range_sum}
use Rattle.cell_values.proofs.PartLemmas.{SumSoFar}
use Rattle.cell_values.proofs.totals.group_sum.Given as goal

abbrev pub invariant-loop-range : goal.invariant-loop-range
invariant-loop-range g l = record {
  is : SumSoFar (range_sum (g.S.RowStore.rows l.store) l.need l.group) l.ranges l.range-index l.sum;
  size : unsigned_abs l.sum.micros ≤ 2 ^ 63 * l.sum.count;
  plain : l.sum.plain ≤ l.sum.count;
  few : l.sum.count ≤ 4194304;
}
