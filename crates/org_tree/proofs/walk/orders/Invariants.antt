use Rattle.org_tree.specs.Walk.{OrdersSoFar}
use Rattle.org_tree.proofs.walk.orders.Given as goal

abbrev pub invariant-loop-i : goal.invariant-loop-i
invariant-loop-i l = OrdersSoFar l.units l.kin l.i l.orders.items
