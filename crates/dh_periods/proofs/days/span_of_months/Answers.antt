use Rattle.std.proofs.Common.{◌≡◌, ℕ, ◌+◌, ◌-◌, ◌*◌, ◌∙◌, arith, w32, pos, ◌-ℤ◌, sym, ap, to_z, of_z, to_z-of_z, FitsSigned, rules}
use Rattle.dh_periods.specs.declared.kind.Shape.TheVariants.{Months}
use Rattle.dh_periods.specs.Calendar.{unix_day, days_before_month}
use Rattle.dh_periods.specs.Days.{start_month}
use Rattle.dh_periods.specs.Spans.{span_as}
use Rattle.dh_periods.proofs.SpanLemmas.{some_span}
use Rattle.dh_periods.proofs.days.span_of_months.Goals as goal

sums : (a b k : ℕ) → a + (b + k) ≡ a + b + k
sums a b k = omega arith

pub returns : goal.returns
returns c =
    let p = c.args.name in
    let from : c.from.result ≡ c.args.opening + c.args.count * (p.number - 1) = c.from.ensures ∙ ap (λ k. c.args.opening + k) c.months_before.ensures.value in
    let place : 12 * (p.year - 1900) + c.from.result ≡ start_month c.args.count c.args.opening p.year p.number =
    ap (λ k. 12 * (p.year - 1900) + k) from ∙ sums (12 * (p.year - 1900)) c.args.opening (c.args.count * (p.number - 1)) in
    let after : 12 * (p.year - 1900) + c.from.result + c.from-2.result ≡ start_month c.args.count c.args.opening p.year p.number + c.args.count =
    ap (λ k. 12 * (p.year - 1900) + c.from.result + k) c.from-2.ensures ∙ ap (λ k. k + c.args.count) place in
    let first_fits : FitsSigned w32 c.month_start.result = search rules in
    let after_fits : FitsSigned w32 c.month_start-2.result = search rules in
    let last_fits : FitsSigned w32 (to_z w32 (of_z w32 c.month_start-2.result) -ℤ pos 1) = search rules in
    some_span _ _ _ (span_as (Months c.args.count c.args.opening) p) (sym c.if-not-is_in_year.ensures.value)
    (to_z-of_z first_fits ∙ c.month_start.ensures ∙ ap (λ k. unix_day (days_before_month k)) place)
    (to_z-of_z last_fits ∙ ap (λ z. z -ℤ pos 1) (to_z-of_z after_fits ∙ c.month_start-2.ensures ∙ ap (λ k. unix_day (days_before_month k)) after))
