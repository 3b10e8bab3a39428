use Rattle.std.proofs.Common.{◌<◌, ◌∙◌, Some, ap, arith, length, to_z-of_z, FitsSigned, rules}
use Rattle.std.specs.Int.{w128}
use Rattle.table_rows.specs.Ends.{order_of}
use Rattle.table_rows.proofs.EndLemmas.{run-more, order_of-is, run-none, run-some}
use Rattle.table_rows.proofs.ends.outermost.Goals as goal

pub loop-at-preserved : goal.loop-at-preserved
loop-at-preserved c =
    let best : c.loop-at.run.best < length c.args.samples.now = omega (arith, c.loop-at.invariant.best, c.loop-at-test.true) in
    record {
      found =
          run-more (order_of c.args.end) (order_of-is c.args.end) c.args.samples.now c.loop-at.at c.index-samples-at.result c.index-samples-run.result
          c.loop-at.run c.with_sample-run.result
          c.requires.ordered c.loop-at-test.true c.index-samples-at.is best c.index-samples-run.is c.loop-at.invariant.found c.with_sample-run.ensures.run;
      best = omega (arith, c.with_sample-run.ensures.best);
      few = omega (arith, c.with_sample-run.ensures.few, c.loop-at.invariant.few);
      size = omega (arith, c.with_sample-run.ensures.size, c.loop-at.invariant.size);
    }

pub returns-then-run-eq0-clause-found : goal.returns-then-run-eq0-clause-found
returns-then-run-eq0-clause-found c =
    run-none (order_of c.args.end) c.args.samples.now c.loop-at.at c.loop-at.run c.loop-at-test.false c.loop-at.invariant.found c.if-run-eq0.true

pub returns-clause-found : goal.returns-clause-found
returns-clause-found c =
    let fits : FitsSigned w128 c.loop-at.run.micros = search rules in
    ap (λ m. Some (record { micros = m; series = c.loop-at.run.series })) (to_z-of_z fits)
    ∙ run-some (order_of c.args.end) c.args.samples.now c.loop-at.at c.loop-at.run c.loop-at-test.false c.loop-at.auto.at-end c.loop-at.invariant.found
    c.loop-at.invariant.few c.if-run-eq0.false
