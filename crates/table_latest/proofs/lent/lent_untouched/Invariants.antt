use Rattle.std.proofs.Common.{◌≡◌, map, take}
use Rattle.table_latest.specs.Latest.{is_event_touched, untouched}
use Rattle.table_latest.proofs.lent.lent_untouched.Given as goal

abbrev pub invariant-loop-event : goal.invariant-loop-event
invariant-loop-event l = l.kept.items ≡ untouched (is_event_touched l.latest.touched) (map (λ event. event.now) (take l.event-index l.all))
