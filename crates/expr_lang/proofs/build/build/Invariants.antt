use Rattle.expr_lang.proofs.MakingLemmas.{IsMade}
use Rattle.expr_lang.proofs.build.build.Given as goal

abbrev pub invariant-loop-spot : goal.invariant-loop-spot
invariant-loop-spot l = IsMade l.text l.days l.nodes l.spot-index l.making
