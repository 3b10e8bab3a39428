use Rattle.std.proofs.Common.{◌∙◌}
use Rattle.validation.proofs.RuleLemmas.{side_run}
use Rattle.validation.proofs.sides.side_value.Goals as goal

pub returns-clause-value : goal.returns-clause-value
returns-clause-value g c =
    side_run _ _ _ c.args.side.now c.in_ok-form.form c.items.result.now c.as_slice.result.now c.eval.result c.in_ok-form.ensures c.items.ensures
    (c.as_slice.ensures.value ∙ c.in_ok-values.ensures.values) c.eval.ensures
