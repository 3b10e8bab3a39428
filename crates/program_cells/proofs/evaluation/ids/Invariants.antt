use Rattle.std.proofs.Common.{◌≡◌, ◌++◌, Some, map, drop}
use Rattle.std.specs.Prelude.{option_map}
use Rattle.program_cells.specs.Value.{ids_of, collected}
use Rattle.program_cells.specs.Code.{passes_form}
use Rattle.program_cells.proofs.evaluation.ids.Given as goal

abbrev pub invariant-loop-subject : goal.invariant-loop-subject
invariant-loop-subject l =
    collected (passes_form l.code.filter l.code.filter_items) (λ subject. Some (ids_of l.measure subject)) (map (λ subject. subject.now) l.subjects)
    ≡ option_map (λ more. l.ids.items ++ more)
    (collected (passes_form l.code.filter l.code.filter_items) (λ subject. Some (ids_of l.measure subject))
    (map (λ subject. subject.now) (drop l.subject-index l.subjects)))
