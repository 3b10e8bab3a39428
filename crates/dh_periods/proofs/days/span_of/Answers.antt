use Rattle.std.proofs.Common.{inl, inr}
use Rattle.dh_periods.specs.declared.kind.Shape.TheVariants.{Day, Week, Months}
use Rattle.dh_periods.proofs.SpanLemmas.{span_of-as, span_of-outside}
use Rattle.dh_periods.proofs.days.span_of.Goals.{then-name-lt-FIRST_YEAR-via-then-name-lt-FIRST_YEAR}
use Rattle.dh_periods.proofs.days.span_of.Goals.{then-name-lt-FIRST_YEAR-via-else-name-lt-FIRST_YEAR+then-name-gt-LAST_YEAR}
use Rattle.dh_periods.proofs.days.span_of.Goals as goal

pub returns-then-name-lt-FIRST_YEAR : goal.returns-then-name-lt-FIRST_YEAR
returns-then-name-lt-FIRST_YEAR c =
    elim c.then-name-lt-FIRST_YEAR.branch [
      | then-name-lt-FIRST_YEAR-via-then-name-lt-FIRST_YEAR w ↦ span_of-outside c.args.name (inl w.if-name-lt-FIRST_YEAR.true)
      | then-name-lt-FIRST_YEAR-via-else-name-lt-FIRST_YEAR+then-name-gt-LAST_YEAR w ↦ span_of-outside c.args.name (inr w.if-name-gt-LAST_YEAR.true)
    ]

pub returns-in-Day : goal.returns-in-Day
returns-in-Day c =
    span_of-as Day c.args.name _ c.in-Day.ensures.value c.if-name-lt-FIRST_YEAR.false c.if-name-gt-LAST_YEAR.false c.span_of_day.ensures

pub returns-in-Week : goal.returns-in-Week
returns-in-Week c =
    span_of-as Week c.args.name _ c.in-Week.ensures.value c.if-name-lt-FIRST_YEAR.false c.if-name-gt-LAST_YEAR.false c.span_of_week.ensures

pub returns-in-Months : goal.returns-in-Months
returns-in-Months c =
    span_of-as (Months c.in-Months.count c.in-Months.opening) c.args.name _ c.in-Months.ensures.value c.if-name-lt-FIRST_YEAR.false c.if-name-gt-LAST_YEAR.false
    c.span_of_months.ensures
