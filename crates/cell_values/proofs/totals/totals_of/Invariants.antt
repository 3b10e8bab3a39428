use Rattle.std.proofs.Common.{◌≤◌, ◌*◌, ◌^◌, unsigned_abs}
use Rattle.cell_values.specs.Parts.{group_sum, group_weight}
use Rattle.cell_values.proofs.PartLemmas.{SumSoFar}
use Rattle.cell_values.proofs.WeightLemmas.{WeightSoFar}
use Rattle.cell_values.proofs.totals.totals_of.Given as goal

abbrev pub invariant-loop-group : goal.invariant-loop-group
invariant-loop-group g l = record {
  is : SumSoFar (group_sum (g.S.RowStore.rows l.store) l.need l.ranges) l.groups l.group-index l.sum;
  size : unsigned_abs l.sum.micros ≤ 2 ^ 63 * l.sum.count;
  plain : l.sum.plain ≤ l.sum.count;
  few : l.sum.count ≤ 4194304;
  weighted : WeightSoFar (group_weight (g.S.RowStore.rows l.store) l.need l.ranges) l.groups l.group-index l.weighted;
  small : unsigned_abs l.weighted ≤ 2 ^ 95 * l.sum.count;
}
