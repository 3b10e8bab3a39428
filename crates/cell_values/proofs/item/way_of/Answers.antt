use Rattle.std.proofs.Common.{◌∙◌, Some, sym, ap}
use Rattle.cell_values.proofs.item.way_of.Goals as goal

pub returns-in_ok-plan-in-Some : goal.returns-in_ok-plan-in-Some
returns-in_ok-plan-in-Some g c = (
  c.in_ok-plan-in-Some.ensures.plan,
  sym c.operand_of.ensures.value ∙ c.in-Some.is ∙ ap Some (sym c.in_ok-plan-in-Some.ensures.operand),
)
