use Rattle.std.proofs.Common.{arith}
use Rattle.table_rows.specs.Rows.{is_wanted}
use Rattle.table_rows.specs.Sums.{sum_of_row}
use Rattle.table_rows.proofs.SumLemmas.{sum-more, told_sum}
use Rattle.table_rows.proofs.plain.range_sum.Goals as goal

pub loop-row-preserved : goal.loop-row-preserved
loop-row-preserved c = record {
  is = sum-more sum_of_row (is_wanted c.args.group.now c.args.need c.args.from c.args.to) c.args.rows.now c.loop-row.row-index c.row-item.result
      c.loop-row.sum c.with_row-sum.result c.loop-row-test.true c.row-item.is c.loop-row.invariant.is
      (told_sum c.is_wanted.result _ c.loop-row.sum c.row-item.result c.with_row-sum.result c.is_wanted.ensures c.with_row-sum.ensures.sum);
  size = c.with_row-sum.ensures.size;
  plain = c.with_row-sum.ensures.plain;
  few = omega (arith, c.with_row-sum.ensures.few, c.loop-row.invariant.few);
}
