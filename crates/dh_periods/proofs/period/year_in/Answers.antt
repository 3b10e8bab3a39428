use Rattle.std.proofs.Common.{◌<◌, ◌^◌, arith, sym, ◌∙◌}
use Rattle.dh_periods.specs.Calendar.{year_with}
use Rattle.dh_periods.proofs.HeldLemmas.{first-in}
use Rattle.dh_periods.proofs.PlaceLemmas.{first_place-from, year_of-written, year-read, year_of-place}
use Rattle.dh_periods.proofs.CalendarLemmas.{month_with-small}
use Rattle.dh_periods.proofs.period.year_in.Goals as goal

pub place_of-requires-clause-from : goal.place_of-requires-clause-from
place_of-requires-clause-from c = (first-in c.args.first c.args.name c.requires.listed c.requires.first).0

pub place_of-requires-clause-to : goal.place_of-requires-clause-to
place_of-requires-clause-to c = (first-in c.args.first c.args.name c.requires.listed c.requires.first).1

pub returns-in-Day : goal.returns-in-Day
returns-in-Day c = sym (year_of-written c.args.name c.requires.listed (λ week. cc (c.in-Day.ensures.value)))

pub returns-in-Months : goal.returns-in-Months
returns-in-Months c = sym (year_of-written c.args.name c.requires.listed (λ week. cc (c.in-Months.ensures.value)))

pub returns-in-Week : goal.returns-in-Week
returns-in-Week c =
    let back = (first-in c.args.first c.args.name c.requires.listed c.requires.first).2 in
    let place = first_place-from c.args.name c.place_of.result _ (back ∙ c.requires.first) c.place_of.ensures.value in
    let small = month_with-small c.place_of.result in
    let bound = c.place_of.ensures.bound in
    let fits : year_with c.place_of.result < 2 ^ 15 = omega arith in
    year-read c.date_at.result.year (year_with c.place_of.result) c.date_at.ensures.year fits ∙ year_of-place c.args.name c.place_of.result place
