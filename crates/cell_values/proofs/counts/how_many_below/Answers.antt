use Rattle.std.proofs.Common.{arith}
use Rattle.cell_values.proofs.CountLemmas.{count-cut}
use Rattle.cell_values.proofs.counts.how_many_below.Goals as goal

pub returns-clause-value : goal.returns-clause-value
returns-clause-value c =
    count-cut c.args.numbers.now c.args.end c.loop-low.low (omega (arith, c.loop-low.invariant.between, c.loop-low.invariant.most)) c.loop-low.invariant.before
    (λ k from within. c.loop-low.invariant.after k (omega (arith, from, c.loop-low-test.false, c.loop-low.invariant.between)) within)
