use Rattle.std.proofs.Common.{◌≡◌, take}
use Rattle.cell_values.specs.Plans.{inside}
use Rattle.cell_values.proofs.groups.inside.Given as goal

abbrev pub invariant-loop-group : goal.invariant-loop-group
invariant-loop-group l = l.kept.items ≡ inside l.periods (take l.group-index l.groups)
