use Rattle.std.proofs.Common.{◌∙◌, map, refl, ap}
use Rattle.std.specs.List.{filter}
use Rattle.std.proofs.lemmas.List.{take_all}
use Rattle.table_rows.specs.Events.{is_event_of}
use Rattle.table_rows.proofs.KeptLemmas.{kept-more}
use Rattle.table_rows.proofs.plain.events_of.Goals as goal

pub loop-event-preserved : goal.loop-event-preserved
loop-event-preserved c =
    let asked = is_event_of c.args.asked.now.program c.args.asked.now.from_day c.args.asked.now.to_day in
    kept-more asked c.args.events.now c.loop-event.event-index c.event-item.result (asked c.event-item.result)
    (map (λ event. event.now) c.loop-event.found.items) (map (λ event. event.now) c.put_event.new.found.items)
    c.loop-event-test.true c.event-item.is refl c.in_ok-put_event.ensures c.loop-event.invariant

pub returns : goal.returns
returns c =
    c.loop-event.invariant
    ∙ ap (filter (is_event_of c.args.asked.now.program c.args.asked.now.from_day c.args.asked.now.to_day))
    (take_all c.loop-event.event-index c.args.events.now c.loop-event-test.false)
