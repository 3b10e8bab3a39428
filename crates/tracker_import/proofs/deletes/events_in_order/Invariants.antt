use Rattle.std.proofs.Common.{◌≡◌, [], drop}
use Rattle.std.specs.List.{flat_map}
use Rattle.dh_changes.specs.World.{facts}
use Rattle.tracker_import.specs.Deletes.{events_left, put_ids}
use Rattle.tracker_import.proofs.deletes.events_in_order.Given as goal

abbrev pub invariant-loop-enrollment : goal.invariant-loop-enrollment
invariant-loop-enrollment l =
    let events = flat_map (events_left (facts l.world) l.batch.verdict.writes) in
    put_ids [] (events l.enrollments) ≡ put_ids l.all.entries (events (drop l.enrollment-index l.enrollments))
