use Rattle.std.proofs.Common.{◌≡◌, map, take}
use Rattle.std.specs.List.{filter}
use Rattle.program_cells.specs.Cells.{is_enrolled_on}
use Rattle.program_cells.specs.Enrollments.{first_is}
use Rattle.program_cells.proofs.enrolled.enrolled_during.Given as goal

abbrev pub invariant-loop-enrollment : goal.invariant-loop-enrollment
invariant-loop-enrollment l =
    map (λ subject. subject.now) l.kept.items ≡ filter (first_is (is_enrolled_on l.periods)) (take l.enrollment-index l.enrollments)
