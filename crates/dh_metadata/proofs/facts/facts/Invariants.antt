use Rattle.dh_metadata.specs.Users.{AreFactsUpto}
use Rattle.dh_metadata.proofs.facts.facts.Given as goal

abbrev pub invariant-loop-number : goal.invariant-loop-number
invariant-loop-number l = AreFactsUpto l.records l.number l.facts.items
