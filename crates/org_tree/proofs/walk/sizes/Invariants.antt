use Rattle.org_tree.specs.Walk.{CountsUnder}
use Rattle.org_tree.proofs.walk.sizes.Given as goal

abbrev pub invariant-loop-unit : goal.invariant-loop-unit
invariant-loop-unit l = CountsUnder l.units l.unit l.sizes.items
