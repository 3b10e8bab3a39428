use Rattle.std.proofs.Common.{◌∙◌, sym, drop, arith}
use Rattle.std.proofs.lemmas.List.{length-drop}
use Rattle.expr_lang.proofs.Digits.{front_ended}
use Rattle.expr_lang.proofs.NumberLemmas.{front_more, front_stop, front_end}
use Rattle.expr_lang.proofs.token.front_len.Goals as goal

pub returns-else-len-bytes : goal.returns-else-len-bytes
returns-else-len-bytes c =
    omega (
      arith,
      front_ended (drop c.loop-len.len c.args.word.now) (drop c.loop-len.len c.args.bytes.now)
          (omega (arith, length-drop c.loop-len.len c.args.bytes.now)),
    )

pub loop-len-preserved : goal.loop-len-preserved
loop-len-preserved c = (
  omega (
    arith,
    front_more c.args.word.now c.args.bytes.now c.loop-len.len c.loop-len-test.true c.if-len-bytes.true (sym c.fits.ensures ∙ c.if-fits.true),
  ),
  omega arith,
  omega arith,
)

pub returns-else-fits-clause-value : goal.returns-else-fits-clause-value
returns-else-fits-clause-value c =
    omega (
      arith,
      front_stop c.args.word.now c.args.bytes.now c.loop-len.len c.loop-len-test.true c.if-len-bytes.true (sym c.fits.ensures ∙ c.if-fits.false),
    )

pub returns-after-loop-len-clause-value : goal.returns-after-loop-len-clause-value
returns-after-loop-len-clause-value c = omega (arith, front_end c.args.word.now c.args.bytes.now c.loop-len.len c.loop-len-test.false)
