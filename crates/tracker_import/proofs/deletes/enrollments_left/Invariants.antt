use Rattle.std.proofs.Common.{◌≡◌, ◌++◌, filter, drop, is_some}
use Rattle.dh_changes.specs.World.{facts}
use Rattle.tracker_import.specs.Known.{enrollment_now}
use Rattle.tracker_import.proofs.deletes.enrollments_left.Given as goal

abbrev pub invariant-loop-id : goal.invariant-loop-id
invariant-loop-id l =
    filter (λ id. is_some (enrollment_now (facts l.world) l.batch.verdict.writes id)) l.id-items
    ≡ l.left ++ filter (λ id. is_some (enrollment_now (facts l.world) l.batch.verdict.writes id)) (drop l.id-index l.id-items)
