use Rattle.std.proofs.Common.{◌≡◌, ◌∙◌, ◌+ℤ◌, pos, true, ap}
use Rattle.dh_periods.specs.Days.{is_listed}
use Rattle.dh_periods.proofs.HeldLemmas.{first-in}
use Rattle.table_rows.proofs.StoreLemmas.{true_from}
use Rattle.cell_values.proofs.DayLemmas.{last-in, day_range-is}
use Rattle.cell_values.proofs.period_days.day_range.Goals as goal

pub place_of-first-requires-clause-from : goal.place_of-first-requires-clause-from
place_of-first-requires-clause-from c = (first-in c.first.result c.args.period.now (true_from _ c.first.ensures.listed) c.first.ensures.value).0

pub place_of-first-requires-clause-to : goal.place_of-first-requires-clause-to
place_of-first-requires-clause-to c = (first-in c.first.result c.args.period.now (true_from _ c.first.ensures.listed) c.first.ensures.value).1

pub place_of-last-requires-clause-from : goal.place_of-last-requires-clause-from
place_of-last-requires-clause-from c = (last-in c.last.result c.args.period.now (true_from _ c.last.ensures.listed) c.last.ensures.value).0

pub place_of-last-requires-clause-to : goal.place_of-last-requires-clause-to
place_of-last-requires-clause-to c = (last-in c.last.result c.args.period.now (true_from _ c.last.ensures.listed) c.last.ensures.value).1

pub returns : goal.returns
returns c =
    let p = c.args.period.now in
    let listed : is_listed p ≡ true = true_from _ c.first.ensures.listed in
    day_range-is p c.place_of-first.result c.place_of-last.result
    (c.place_of-first.ensures.value ∙ ap (λ d. d +ℤ pos 25567) ((first-in c.first.result p listed c.first.ensures.value).2 ∙ c.first.ensures.value))
    (c.place_of-last.ensures.value ∙ ap (λ d. d +ℤ pos 25567) ((last-in c.last.result p listed c.last.ensures.value).2 ∙ c.last.ensures.value))
    c.place_of-last.ensures.bound
