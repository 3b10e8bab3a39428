use Rattle.std.proofs.Common.{arith}
use Rattle.table_rows.proofs.TotalLemmas.{sums-more}
use Rattle.table_rows.proofs.sums.sum_of.Goals as goal

pub loop-sample-preserved : goal.loop-sample-preserved
loop-sample-preserved c = record {
  is = sums-more c.args.samples.now c.loop-sample.sample-index c.sample-item.result c.loop-sample.sum c.more-sum.result c.loop-sample-test.true
      c.sample-item.is
      c.loop-sample.invariant.is c.more-sum.ensures.sum;
  size = c.more-sum.ensures.size;
  plain = c.more-sum.ensures.plain;
  few = omega (arith, c.more-sum.ensures.few, c.loop-sample.invariant.few);
}
