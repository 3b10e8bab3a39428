use Rattle.std.proofs.Common.{◌≡◌, map, take}
use Rattle.table_rows.proofs.event.copies.Given as goal

abbrev pub invariant-loop-event : goal.invariant-loop-event
invariant-loop-event l = l.found.items ≡ map (λ event. event.now) (take l.event-index l.lent)
