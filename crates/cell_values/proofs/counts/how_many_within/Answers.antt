use Rattle.std.proofs.Common.{◌≡◌, ◌+◌, get_or, sym, subst, arith}
use Rattle.cell_values.specs.Counts.{how_many_in}
use Rattle.cell_values.proofs.CountLemmas.{CountedIn, CountedIn-start, CountedIn-more, CountedIn-fits}
use Rattle.cell_values.proofs.counts.how_many_within.Goals as goal

pub loop-range-init : goal.loop-range-init
loop-range-init c = record { is = CountedIn-start c.args.numbers.now c.args.ranges.now c.requires.apart; few = omega arith }

pub overflow_add-count : goal.overflow_add-count
overflow_add-count c =
    let i = c.loop-range.range-index in
    let here : c.how_many_in-count.result ≡ how_many_in c.args.numbers.now (get_or c.args.ranges.now i (0, 0)) = c.how_many_in-count.ensures in
    let most = CountedIn-fits c.args.numbers.now c.args.ranges.now i c.loop-range.count c.loop-range-test.true c.loop-range.invariant.is in
    record { fits = omega (arith, here, most) }

pub loop-range-preserved : goal.loop-range-preserved
loop-range-preserved c =
    let i = c.loop-range.range-index in
    let here : c.how_many_in-count.result ≡ how_many_in c.args.numbers.now (get_or c.args.ranges.now i (0, 0)) = c.how_many_in-count.ensures in
    let most = CountedIn-fits c.args.numbers.now c.args.ranges.now i c.loop-range.count c.loop-range-test.true c.loop-range.invariant.is in
    record {
      is = subst (λ n. CountedIn c.args.numbers.now c.args.ranges.now (i + 1) (c.loop-range.count + n)) (sym here)
          (CountedIn-more c.args.numbers.now c.args.ranges.now i c.loop-range.count c.loop-range-test.true c.loop-range.invariant.is);
      few = omega (arith, here, most);
    }
