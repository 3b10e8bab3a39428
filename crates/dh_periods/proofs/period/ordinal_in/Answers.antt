use Rattle.std.proofs.Common.{arith, sym, ◌∙◌}
use Rattle.dh_periods.proofs.HeldLemmas.{first-in}
use Rattle.dh_periods.proofs.PlaceLemmas.{first_place-from, first_place-day, first_place-week, ordinal_of-months, ordinal_of-small, name-bounds}
use Rattle.dh_periods.proofs.period.ordinal_in.Goals as goal

pub place_of-requires-clause-from : goal.place_of-requires-clause-from
place_of-requires-clause-from c = (first-in c.args.first c.args.name c.requires.listed c.requires.first).0

pub place_of-requires-clause-to : goal.place_of-requires-clause-to
place_of-requires-clause-to c = (first-in c.args.first c.args.name c.requires.listed c.requires.first).1

pub place_of-requires-in-Week-clause-from : goal.place_of-requires-in-Week-clause-from
place_of-requires-in-Week-clause-from c = (first-in c.args.first c.args.name c.requires.listed c.requires.first).0

pub place_of-requires-in-Week-clause-to : goal.place_of-requires-in-Week-clause-to
place_of-requires-in-Week-clause-to c = (first-in c.args.first c.args.name c.requires.listed c.requires.first).1

pub month_ordinal-requires-clause-year_from : goal.month_ordinal-requires-clause-year_from
month_ordinal-requires-clause-year_from c = (name-bounds c.args.name c.requires.listed).0

pub month_ordinal-requires-clause-year_to : goal.month_ordinal-requires-clause-year_to
month_ordinal-requires-clause-year_to c = (name-bounds c.args.name c.requires.listed).1

pub month_ordinal-requires-clause-number : goal.month_ordinal-requires-clause-number
month_ordinal-requires-clause-number c = (name-bounds c.args.name c.requires.listed).2

pub returns-in-Day-clause-value : goal.returns-in-Day-clause-value
returns-in-Day-clause-value c =
    let back = (first-in c.args.first c.args.name c.requires.listed c.requires.first).2 in
    first_place-from c.args.name c.place_of.result _ (back ∙ c.requires.first) c.place_of.ensures.value ∙ first_place-day c.args.name c.in-Day.ensures.value

pub returns-in-Week-clause-value : goal.returns-in-Week-clause-value
returns-in-Week-clause-value c =
    let back = (first-in c.args.first c.args.name c.requires.listed c.requires.first).2 in
    let place = first_place-from c.args.name c.place_of-in-Week.result _ (back ∙ c.requires.first) c.place_of-in-Week.ensures.value in
    let week = first_place-week c.args.name c.in-Week.ensures.value in
    omega arith

pub returns-in-Months-clause-value : goal.returns-in-Months-clause-value
returns-in-Months-clause-value c =
    c.month_ordinal.ensures ∙ sym (ordinal_of-months c.args.name c.in-Months.count c.in-Months.opening c.in-Months.ensures.value)

pub returns-in-Months-clause-bound : goal.returns-in-Months-clause-bound
returns-in-Months-clause-bound c =
    let same = ordinal_of-months c.args.name c.in-Months.count c.in-Months.opening c.in-Months.ensures.value in
    let small = ordinal_of-small c.args.name c.requires.listed in
    rw (c.month_ordinal.ensures, ← same) small
