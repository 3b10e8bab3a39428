use Rattle.std.proofs.Common.{◌∙◌, not, sym, ap}
use Rattle.table_rows.specs.Ends.{order_of}
use Rattle.table_rows.specs.Samples.{number_of}
use Rattle.table_rows.proofs.EndLemmas.{next-none, next-same, next-begins, next-beyond, sum-told, moved-told}
use Rattle.table_rows.proofs.ends.with_sample.Goals as goal

pub returns-then-is_none-clause-run : goal.returns-then-is_none-clause-run
returns-then-is_none-clause-run c =
    next-none (order_of c.args.end) c.args.run.now c.args.best.now c.args.sample.now c.args.at
    (c.is_none.ensures ∙ ap (λ b. not b) c.if-is_none.true)

pub returns-clause-run : goal.returns-clause-run
returns-clause-run c =
    next-same (order_of c.args.end) c.args.run.now c.args.best.now c.args.sample.now c.args.at
    (c.is_none.ensures ∙ ap (λ b. not b) c.if-is_none.false) (sym c.begins_series.ensures ∙ c.if-begins_series.false)
    (sym c.goes_beyond.ensures ∙ c.if-goes_beyond.false)

pub returns-then-begins_series-clause-run : goal.returns-then-begins_series-clause-run
returns-then-begins_series-clause-run c =
    next-begins (order_of c.args.end) c.args.run.now c.args.best.now c.args.sample.now c.args.at _
    (c.is_none.ensures ∙ ap (λ b. not b) c.if-is_none.false) (sym c.begins_series.ensures ∙ c.if-begins_series.true)
    (sum-told c.args.run.now.micros c.number.result (number_of c.args.sample.now) c.requires.size c.number.ensures.size c.number.ensures.value)

pub returns-then-goes_beyond-clause-run : goal.returns-then-goes_beyond-clause-run
returns-then-goes_beyond-clause-run c =
    next-beyond (order_of c.args.end) c.args.run.now c.args.best.now c.args.sample.now c.args.at _
    (c.is_none.ensures ∙ ap (λ b. not b) c.if-is_none.false) (sym c.begins_series.ensures ∙ c.if-begins_series.false)
    (sym c.goes_beyond.ensures ∙ c.if-goes_beyond.true)
    (moved-told c.args.run.now.micros c.number-then-goes_beyond.result c.number-then-goes_beyond-2.result c.moved.result (number_of c.args.best.now)
    (number_of c.args.sample.now) c.requires.size c.number-then-goes_beyond.ensures.size c.number-then-goes_beyond-2.ensures.size
    c.number-then-goes_beyond.ensures.value c.number-then-goes_beyond-2.ensures.value c.moved.ensures.sum c.moved.ensures.size)
