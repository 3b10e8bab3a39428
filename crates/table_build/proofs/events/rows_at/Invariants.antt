use Rattle.std.proofs.Common.{◌≡◌, ◌++◌, drop}
use Rattle.std.specs.List.{filter_map}
use Rattle.dh_changes.specs.World.{facts}
use Rattle.table_build.specs.Events.{event_at}
use Rattle.table_build.proofs.events.rows_at.Given as goal

abbrev pub invariant-loop-place : goal.invariant-loop-place
invariant-loop-place l =
    filter_map (event_at l.meta (facts l.world)) l.places
    ≡ l.rows.items ++ filter_map (event_at l.meta (facts l.world)) (drop l.place-index l.places)
