use Rattle.std.proofs.Common.{take}
use Rattle.expr_lang.specs.Days.{IsIndexOf}
use Rattle.expr_lang.proofs.days.set_of.Given as goal

abbrev pub invariant-loop-uid : goal.invariant-loop-uid
invariant-loop-uid l = IsIndexOf l.known (take l.uid-index l.uids)
