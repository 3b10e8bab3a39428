use Rattle.std.proofs.Common.{take}
use Rattle.query_lang.specs.Walk.{Knows}
use Rattle.query_lang.proofs.set.set_of.Given as goal

abbrev pub invariant-loop-number : goal.invariant-loop-number
invariant-loop-number l = Knows l.seen (take l.number-index l.numbers)
