use Rattle.std.proofs.Common.{length}
use Rattle.table_latest.proofs.MergeLemmas.{Taking}
use Rattle.table_latest.proofs.merged.take_above.Given as goal

abbrev pub invariant-loop-last : goal.invariant-loop-last
invariant-loop-last g l = Taking g.T.Ranked.rank l.x l.initial.first.items l.first.items l.initial.back.items l.back.items

abbrev pub decreases-loop-last : goal.decreases-loop-last
decreases-loop-last g l = length l.first.items
