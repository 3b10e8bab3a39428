use Rattle.std.proofs.Common.{◌≡◌}
use Rattle.std.specs.Vec.Iter.{into_iter_items}
use Rattle.program_cells.specs.Enrollments.{joined_to, together}
use Rattle.program_cells.proofs.grouping.together.Given as goal

abbrev pub invariant-loop-event : goal.invariant-loop-event
invariant-loop-event l = together l.fn.events.items ≡ joined_to l.subjects.items (into_iter_items l.event-iterator)
