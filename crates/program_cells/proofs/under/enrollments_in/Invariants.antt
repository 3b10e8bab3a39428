use Rattle.std.proofs.Common.{◌≡◌, map, take}
use Rattle.std.specs.List.{filter}
use Rattle.program_cells.specs.Enrollments.{first_is}
use Rattle.program_cells.specs.Kept.{is_placed_in}
use Rattle.program_cells.proofs.under.enrollments_in.Given as goal

abbrev pub invariant-loop-enrollment : goal.invariant-loop-enrollment
invariant-loop-enrollment l =
    map (λ subject. subject.now) l.kept.items
    ≡ filter (first_is (is_placed_in l.ranges)) (map (λ subject. subject.now) (take l.enrollment-index l.enrollments))
