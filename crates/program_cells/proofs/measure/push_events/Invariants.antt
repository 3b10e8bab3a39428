use Rattle.std.proofs.Common.{◌≡◌, ◌++◌, map, take}
use Rattle.table_rows.specs.declared.event.EventRow.{EventRow}
use Rattle.program_cells.proofs.measure.push_events.Given as goal

abbrev pub invariant-loop-event : goal.invariant-loop-event
invariant-loop-event l = l.ids.items ≡ l.initial.ids.items ++ map (λ (event : EventRow). event.id) (take l.event-index l.subject)
