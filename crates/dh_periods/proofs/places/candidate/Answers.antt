use Rattle.std.proofs.Common.{◌∙◌, ap}
use Rattle.dh_periods.specs.declared.kind.Shape.TheVariants.{Day, Week, Months}
use Rattle.dh_periods.specs.Places.{nth_as}
use Rattle.dh_periods.proofs.PlaceLemmas.{candidate-as}
use Rattle.dh_periods.proofs.places.candidate.Goals as goal

pub returns-in-Day : goal.returns-in-Day
returns-in-Day c = candidate-as Day c.args.kind c.args.place _ c.in-Day.ensures.value c.nth_day.ensures

pub returns-in-Week : goal.returns-in-Week
returns-in-Week c = candidate-as Week c.args.kind c.args.place _ c.in-Week.ensures.value c.nth_week.ensures

pub returns-in-Months : goal.returns-in-Months
returns-in-Months c =
    let months = Months c.in-Months.count c.in-Months.opening in
    candidate-as months c.args.kind c.args.place _ c.in-Months.ensures.value (c.nth_months.ensures ∙ ap (nth_as months c.args.kind) c.months_with.ensures.value)
