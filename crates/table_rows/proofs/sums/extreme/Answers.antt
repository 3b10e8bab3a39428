use Rattle.table_rows.specs.Values.{choice_of}
use Rattle.table_rows.proofs.TotalLemmas.{left-more}
use Rattle.table_rows.proofs.sums.extreme.Goals as goal

pub loop-sample-preserved : goal.loop-sample-preserved
loop-sample-preserved c =
    left-more (choice_of c.args.greatest) c.args.samples.now c.loop-sample.sample-index c.sample-item.result c.loop-sample.found c.with_number-found.result
    c.loop-sample-test.true c.sample-item.is
    c.loop-sample.invariant c.with_number-found.ensures
