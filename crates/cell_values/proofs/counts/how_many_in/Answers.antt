use Rattle.cell_values.proofs.CountLemmas.{count-empty, count-range}
use Rattle.cell_values.proofs.counts.how_many_in.Goals as goal

pub returns-then-range : goal.returns-then-range
returns-then-range c = count-empty c.args.numbers.now c.args.range c.if-range.true

pub overflow_sub-result : goal.overflow_sub-result
overflow_sub-result c =
    (count-range c.args.numbers.now c.args.range c.how_many_below-2.result c.how_many_below.result c.if-range.false c.how_many_below-2.ensures.value
    c.how_many_below.ensures.value).0

pub returns : goal.returns
returns c =
    (count-range c.args.numbers.now c.args.range c.how_many_below-2.result c.how_many_below.result c.if-range.false c.how_many_below-2.ensures.value
    c.how_many_below.ensures.value).1
