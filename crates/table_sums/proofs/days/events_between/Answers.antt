use Rattle.std.proofs.Common.{◌∙◌, ap, map}
use Rattle.table_sums.proofs.DayLemmas.{days-start, days-done}
use Rattle.table_sums.proofs.days.events_between.Goals as goal

pub loop-place-init : goal.loop-place-init
loop-place-init c =
    ap (map (λ event. event.now)) c.new-found.ensures.items
    ∙ days-start c.args.asked.now.program c.args.asked.now.from_day c.args.asked.now.to_day c.args.events.now c.count_before-first.result
    c.count_before-first.ensures.before

pub returns : goal.returns
returns c =
    days-done c.args.asked.now.program c.args.asked.now.from_day c.args.asked.now.to_day c.args.events.now c.loop-place.place c.count_before-end.result
    (map (λ event. event.now) c.loop-place.found.items) c.loop-place-test.false c.count_before-end.ensures.after c.loop-place.invariant
