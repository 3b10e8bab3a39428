use Rattle.std.proofs.Common.{◌∙◌, ap}
use Rattle.program_cells.specs.Value.{sum_of, unless_fault}
use Rattle.program_cells.proofs.LoopLemmas.{sum_step, sum_end}
use Rattle.program_cells.proofs.samples.fraction_sum.Goals as goal

pub loop-sample-preserved : goal.loop-sample-preserved
loop-sample-preserved c =
    sum_step c.args.samples.now c.loop-sample.sample-index c.sample-item.result c.loop-sample.sum c.in-Some.next (sum_of c.args.samples.now)
    c.loop-sample-test.true c.sample-item.is c.loop-sample.invariant (c.in-Some.ensures ∙ ap unless_fault c.add.ensures.answer)

pub returns-in-None : goal.returns-in-None
returns-in-None c =
    sum_end c.args.samples.now c.loop-sample.sample-index c.sample-item.result c.loop-sample.sum (sum_of c.args.samples.now)
    c.loop-sample-test.true c.sample-item.is c.loop-sample.invariant (c.in-None.ensures ∙ ap unless_fault c.add.ensures.answer)
