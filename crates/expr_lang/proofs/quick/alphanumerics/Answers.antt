use Rattle.std.proofs.Common.{sym, ◌∙◌, arith}
use Rattle.expr_lang.proofs.Sooner.{more_at, stops_at, ends_at}
use Rattle.expr_lang.proofs.quick.alphanumerics.Goals as goal

pub loop-count-preserved : goal.loop-count-preserved
loop-count-preserved c = (
  omega (
    arith,
    more_at c.args.most c.loop-count.count c.args.bytes.now (omega arith) (omega arith)
        (sym c.is_ascii_alphanumeric.ensures.value ∙ c.if-is_ascii_alphanumeric.true),
  ),
  omega arith,
  omega arith,
)

pub returns-else-is_ascii_alphanumeric : goal.returns-else-is_ascii_alphanumeric
returns-else-is_ascii_alphanumeric c =
    omega (
      arith,
      stops_at c.args.most c.loop-count.count c.args.bytes.now (omega arith) (sym c.is_ascii_alphanumeric.ensures.value ∙ c.if-is_ascii_alphanumeric.false),
    )

pub returns-else-count-bytes : goal.returns-else-count-bytes
returns-else-count-bytes c = omega (arith, ends_at c.args.most c.loop-count.count c.args.bytes.now (omega arith))
