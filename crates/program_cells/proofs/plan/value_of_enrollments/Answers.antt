use Rattle.std.proofs.Common.{◌∙◌, map, ap, subst}
use Rattle.program_cells.specs.Value.{Values, program_value}
use Rattle.program_cells.proofs.plan.value_of_enrollments.Goals as goal

pub returns : goal.returns
returns c r indicator is =
    subst (λ own. Values c.value_over.result (program_value r indicator own))
    (ap (map (λ subject. subject.now)) c.as_slice.ensures.value ∙ c.in_ok-own.ensures) (c.value_over.ensures r indicator is)
