use Rattle.std.proofs.Common.{◌-◌, ◌<◌, ◌^◌, arith, ℕ, ap, ◌∙◌}
use Rattle.dh_periods.specs.Calendar.{year_with}
use Rattle.dh_periods.proofs.CalendarLemmas.{month_with-small}
use Rattle.dh_periods.proofs.PlaceLemmas.{year-read}
use Rattle.dh_periods.proofs.RunLemmas.{year-listed}
use Rattle.dh_periods.proofs.windows.year_on.Goals as goal

pub run_of-requires-clause-listed : goal.run_of-requires-clause-listed
run_of-requires-clause-listed c =
    let small = month_with-small c.args.place in
    let fits : year_with c.args.place < 2 ^ 15 = omega arith in
    let read = year-read c.date_at.result.year (year_with c.args.place) c.date_at.ensures.year fits in
    let years = c.from-years.ensures in
    year-listed c.args.kind c.args.count c.args.place c.from-years.result c.requires.from c.requires.to c.requires.reach (years ∙ ap (λ (y : ℕ). y - 1900) read)
