use Rattle.std.proofs.Common.{sym}
use Rattle.dh_base.specs.Fractions.{fraction_of}
use Rattle.program_cells.specs.Value.{sum_of}
use Rattle.program_cells.proofs.LoopLemmas.{sum_step}
use Rattle.program_cells.proofs.samples.whole_sum.Goals as goal

pub loop-sample-preserved : goal.loop-sample-preserved
loop-sample-preserved c = (
  sum_step c.args.samples.now c.loop-sample.sample-index c.sample-item.result (fraction_of c.loop-sample.sum.number 1)
      (fraction_of c.in-Some.next.number 1) (sum_of c.args.samples.now) c.loop-sample-test.true c.sample-item.is c.loop-sample.invariant.0
      (sym c.in-Some.ensures.next),
  c.in-Some.ensures.fits,
)
