use Rattle.std.proofs.Common.{arith, take-add}
use Rattle.std.proofs.lemmas.Grind.{common_steps}
use Rattle.dh_outside.proofs.whole.write_all.Goals as goal

pub loop-at-preserved : goal.loop-at-preserved
loop-at-preserved g c = grind (arith, common_steps, take-add)
