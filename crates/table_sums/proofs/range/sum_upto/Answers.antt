use Rattle.table_sums.proofs.PartLemmas.{none-sum, cost-none, cost-more}
use Rattle.table_sums.proofs.SumLemmas.{none-sized}
use Rattle.table_sums.proofs.range.sum_upto.Goals as goal

pub loop-position-init : goal.loop-position-init
loop-position-init g c = record {
  sum = none-sum c.args.part.now c.args.list.now c.none-sum.result c.none-sum.ensures;
  size = none-sized c.none-sum.result c.none-sum.ensures;
  cost = λ d few. cost-none c.args.steps.now d;
}

pub loop-position-preserved : goal.loop-position-preserved
loop-position-preserved g c = record {
  sum = c.add_position-sum.ensures.sum;
  size = c.add_position-sum.ensures.size;
  cost = λ d few. cost-more _ _ _ d c.loop-position.position (c.loop-position.invariant.cost d few) (c.add_position-sum.ensures.cost d few);
}
