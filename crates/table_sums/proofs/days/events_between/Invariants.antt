use Rattle.std.proofs.Common.{◌≡◌, map, take}
use Rattle.table_rows.specs.Events.{events_of}
use Rattle.table_sums.proofs.days.events_between.Given as goal

abbrev pub invariant-loop-place : goal.invariant-loop-place
invariant-loop-place l = map (λ event. event.now) l.found.items ≡ events_of l.asked.program l.asked.from_day l.asked.to_day (take l.place l.events)
