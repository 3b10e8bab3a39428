use Rattle.std.proofs.Common.{None}
use Rattle.program_cells.specs.Value.{best_from}
use Rattle.program_cells.proofs.LoopLemmas.{best_step, best_end}
use Rattle.program_cells.proofs.samples.best.Goals as goal

pub loop-sample-preserved : goal.loop-sample-preserved
loop-sample-preserved c =
    best_step c.args.greatest c.args.samples.now c.loop-sample.sample-index c.sample-item.result c.in-Some.next c.loop-sample.best
    (best_from c.args.greatest None c.args.samples.now) c.loop-sample-test.true c.sample-item.is c.loop-sample.invariant c.in-Some.ensures

pub returns-in-None : goal.returns-in-None
returns-in-None c =
    best_end c.args.greatest c.args.samples.now c.loop-sample.sample-index c.sample-item.result c.loop-sample.best
    (best_from c.args.greatest None c.args.samples.now) c.loop-sample-test.true c.sample-item.is c.loop-sample.invariant c.in-None.ensures
