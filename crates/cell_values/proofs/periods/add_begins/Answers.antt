use Rattle.std.proofs.Common.{◌∙◌, ◌+ℤ◌, pos, ap}
use Rattle.dh_periods.proofs.HeldLemmas.{first-in}
use Rattle.table_rows.proofs.StoreLemmas.{true_from}
use Rattle.cell_values.proofs.PeriodLemmas.{last-in, Begins-start, Begins-more, Begins-end}
use Rattle.cell_values.proofs.periods.add_begins.Goals as goal

pub place_of-first-requires-clause-from : goal.place_of-first-requires-clause-from
place_of-first-requires-clause-from c = (first-in c.first.result c.args.period.now (true_from _ c.first.ensures.listed) c.first.ensures.value).0

pub place_of-first-requires-clause-to : goal.place_of-first-requires-clause-to
place_of-first-requires-clause-to c = (first-in c.first.result c.args.period.now (true_from _ c.first.ensures.listed) c.first.ensures.value).1

pub place_of-last-requires-clause-from : goal.place_of-last-requires-clause-from
place_of-last-requires-clause-from c = (last-in c.last.result c.args.period.now (true_from _ c.last.ensures.listed) c.last.ensures.value).0

pub place_of-last-requires-clause-to : goal.place_of-last-requires-clause-to
place_of-last-requires-clause-to c = (last-in c.last.result c.args.period.now (true_from _ c.last.ensures.listed) c.last.ensures.value).1

pub loop-place-init : goal.loop-place-init
loop-place-init c =
    Begins-start c.args.kind c.args.period.now c.args.begins.now.items c.place_of-first.result
    (c.place_of-first.ensures.value
    ∙ ap (λ d. d +ℤ pos 25567) ((first-in c.first.result c.args.period.now (true_from _ c.first.ensures.listed) c.first.ensures.value).2
    ∙ c.first.ensures.value))

pub loop-place-preserved : goal.loop-place-preserved
loop-place-preserved c =
    Begins-more c.args.kind c.args.period.now c.args.begins.now.items c.loop-place.begins.items c.push_if.new.list.items c.loop-place.place
    c.begins_in-here.result c.begins_in-here.ensures c.in_ok-push_if.ensures c.loop-place.invariant

pub returns : goal.returns
returns c =
    Begins-end c.args.kind c.args.period.now c.args.begins.now.items c.loop-place.begins.items c.place_of-last.result c.loop-place.place
    (c.place_of-last.ensures.value
    ∙ ap (λ d. d +ℤ pos 25567) ((last-in c.last.result c.args.period.now (true_from _ c.last.ensures.listed) c.last.ensures.value).2 ∙ c.last.ensures.value))
    c.loop-place-test.false c.loop-place.invariant
