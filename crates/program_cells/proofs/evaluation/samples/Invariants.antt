use Rattle.std.proofs.Common.{◌≡◌, ◌++◌, map, drop}
use Rattle.std.specs.Prelude.{option_map}
use Rattle.program_cells.specs.Value.{sample_by, collected}
use Rattle.program_cells.specs.Code.{form_value, passes_form}
use Rattle.program_cells.proofs.evaluation.samples.Given as goal

abbrev pub invariant-loop-subject : goal.invariant-loop-subject
invariant-loop-subject l =
    collected (passes_form l.code.filter l.code.filter_items) (λ subject. sample_by (form_value l.form l.code.value_items subject))
    (map (λ subject. subject.now) l.subjects)
    ≡ option_map (λ more. l.samples.items ++ more)
    (collected (passes_form l.code.filter l.code.filter_items) (λ subject. sample_by (form_value l.form l.code.value_items subject))
    (map (λ subject. subject.now) (drop l.subject-index l.subjects)))
