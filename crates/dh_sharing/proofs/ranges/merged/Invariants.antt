use Rattle.dh_sharing.proofs.RangeLemmas.{Joins}
use Rattle.dh_sharing.proofs.ranges.merged.Given as goal

abbrev pub invariant-loop-i : goal.invariant-loop-i
invariant-loop-i l = Joins l.sorted l.i l.parts.items l.last
