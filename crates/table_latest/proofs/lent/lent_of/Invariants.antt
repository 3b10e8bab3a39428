use Rattle.std.proofs.Common.{◌≡◌, map, take}
use Rattle.table_latest.proofs.lent.lent_of.Given as goal

abbrev pub invariant-loop-event : goal.invariant-loop-event
invariant-loop-event l = l.list.items ≡ map (λ event. event.now) (take l.event-index l.all)
