use Rattle.std.proofs.Common.{sym, ◌∙◌, arith}
use Rattle.expr_lang.proofs.NumberLemmas.{blank_more, blank_stop, blank_end}
use Rattle.expr_lang.proofs.reading.blank_run.Goals as goal

pub loop-count-preserved : goal.loop-count-preserved
loop-count-preserved c = (
  omega (arith, blank_more c.args.bytes.now c.loop-count.count c.loop-count-test.true (sym c.is_blank.ensures ∙ c.if-is_blank.true)),
  omega arith,
)

pub returns-else-is_blank-clause-count : goal.returns-else-is_blank-clause-count
returns-else-is_blank-clause-count c =
    omega (arith, blank_stop c.args.bytes.now c.loop-count.count c.loop-count-test.true (sym c.is_blank.ensures ∙ c.if-is_blank.false))

pub returns-after-loop-count-clause-count : goal.returns-after-loop-count-clause-count
returns-after-loop-count-clause-count c = omega (arith, blank_end c.args.bytes.now c.loop-count.count c.loop-count-test.false)
