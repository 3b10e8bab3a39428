use Rattle.std.proofs.Common.{◌≡◌, map, take}
use Rattle.table_rows.specs.Events.{events_of}
use Rattle.table_rows.proofs.plain.events_of.Given as goal

abbrev pub invariant-loop-event : goal.invariant-loop-event
invariant-loop-event l =
    map (λ event. event.now) l.found.items ≡ events_of l.asked.program l.asked.from_day l.asked.to_day (take l.event-index l.events)
