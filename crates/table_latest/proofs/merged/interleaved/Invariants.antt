use Rattle.std.proofs.Common.{length}
use Rattle.table_latest.proofs.MergeLemmas.{Merging}
use Rattle.table_latest.proofs.merged.interleaved.Given as goal

abbrev pub invariant-loop-last : goal.invariant-loop-last
invariant-loop-last g l = Merging g.T.Ranked.rank l.fn.first.items l.fn.more.items l.list.items l.more.items l.back.items

abbrev pub decreases-loop-last : goal.decreases-loop-last
decreases-loop-last g l = length l.more.items
