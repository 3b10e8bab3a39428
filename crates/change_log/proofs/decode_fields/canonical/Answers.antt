use Rattle.std.proofs.Common.{sym, ◌∙◌}
use Rattle.change_log.proofs.TextLengths.{canonical-none, canonical-then, canonical-else}
use Rattle.change_log.proofs.decode_fields.canonical.Goals as goal

pub returns-in_err-period : goal.returns-in_err-period
returns-in_err-period c = c.from_residual.ensures ∙ canonical-none c.args.text.now (sym c.in_err-period.was ∙ c.parse.ensures.value)

pub returns-then-text-period_len : goal.returns-then-text-period_len
returns-then-text-period_len c =
    canonical-then c.args.text.now c.in_ok-period.period (sym c.in_ok-period.was ∙ c.parse.ensures.value) (c.if-text-period_len.true
    ∙ c.period_len.ensures.value)

pub returns-else-text-period_len : goal.returns-else-text-period_len
returns-else-text-period_len c =
    canonical-else c.args.text.now c.in_ok-period.period (sym c.in_ok-period.was
    ∙ c.parse.ensures.value) (λ same. c.if-text-period_len.false (same ∙ sym c.period_len.ensures.value))
