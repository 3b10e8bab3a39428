use Rattle.std.proofs.Common.{◌≡◌, take, map}
use Rattle.cell_values.specs.Plans.{groups_inside}
use Rattle.cell_values.proofs.item.item_groups.Given as goal

abbrev pub invariant-loop-plan : goal.invariant-loop-plan
invariant-loop-plan l = l.groups.items ≡ map (groups_inside l.periods) (take l.plan-index l.plans)
