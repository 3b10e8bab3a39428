use Rattle.std.proofs.Common.{◌≡◌, map, take}
use Rattle.table_latest.proofs.lent.lent_events.Given as goal

abbrev pub invariant-loop-lent : goal.invariant-loop-lent
invariant-loop-lent l = map (λ event. event.now) l.events.items ≡ take l.lent-index l.list
