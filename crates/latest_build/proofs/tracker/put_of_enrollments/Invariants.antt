use Rattle.std.proofs.Common.{◌≡◌, ◌++◌, drop}
use Rattle.dh_changes.specs.World.{facts}
use Rattle.table_rows.specs.Cells.{gathered}
use Rattle.latest_build.proofs.tracker.put_of_enrollments.Given as goal

abbrev pub invariant-loop-enrollment : goal.invariant-loop-enrollment
invariant-loop-enrollment l =
    l.fn.ids.items ++ gathered (facts l.world).events_of l.enrollments
    ≡ l.ids.items ++ gathered (facts l.world).events_of (drop l.enrollment-index l.enrollments)
