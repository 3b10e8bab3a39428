use Rattle.std.proofs.Common.{◌≤◌, arith}
use Rattle.dh_periods.specs.declared.kind.Shape.TheVariants.{Day, Week, Months}
use Rattle.dh_periods.proofs.PlaceLemmas.{nth-as, nth-small}
use Rattle.dh_periods.proofs.places.nth.Goals as goal

pub nth_day-requires : goal.nth_day-requires
nth_day-requires c = let small : c.args.place ≤ 80_000 = nth-small Day c.args.kind c.args.place c.in-Day.ensures.value c.requires in omega arith

pub nth_week-requires : goal.nth_week-requires
nth_week-requires c = let small : c.args.place ≤ 12_000 = nth-small Week c.args.kind c.args.place c.in-Week.ensures.value c.requires in omega arith

pub overflow_cast-place : goal.overflow_cast-place
overflow_cast-place c =
    let small : c.args.place ≤ 3_000 = nth-small (Months c.in-Months.count c.in-Months.opening) c.args.kind c.args.place c.in-Months.ensures.value c.requires in
    omega arith

pub nth_months-requires-clause-place : goal.nth_months-requires-clause-place
nth_months-requires-clause-place c =
    let small : c.args.place ≤ 3_000 = nth-small (Months c.in-Months.count c.in-Months.opening) c.args.kind c.args.place c.in-Months.ensures.value c.requires in
    omega arith

pub returns-in-Day : goal.returns-in-Day
returns-in-Day c = nth-as Day c.args.kind c.args.place _ c.in-Day.ensures.value c.nth_day.ensures

pub returns-in-Week : goal.returns-in-Week
returns-in-Week c = nth-as Week c.args.kind c.args.place _ c.in-Week.ensures.value c.nth_week.ensures

pub returns-in-Months : goal.returns-in-Months
returns-in-Months c = nth-as (Months c.in-Months.count c.in-Months.opening) c.args.kind c.args.place _ c.in-Months.ensures.value c.nth_months.ensures
