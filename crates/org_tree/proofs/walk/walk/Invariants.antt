use Rattle.org_tree.proofs.WalkLemmas.{WalkSoFar}
use Rattle.org_tree.proofs.walk.walk.Given as goal

abbrev pub invariant-loop-unit : goal.invariant-loop-unit
invariant-loop-unit l = WalkSoFar l.units l.unit l.walk.items
