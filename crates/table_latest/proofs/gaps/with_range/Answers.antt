use Rattle.table_latest.proofs.GapLemmas.{nothing-more}
use Rattle.table_latest.proofs.gaps.with_range.Goals as goal

pub returns-else-from-to-clause-sum : goal.returns-else-from-to-clause-sum
returns-else-from-to-clause-sum g c =
    nothing-more c.args.group.now c.args.need c.args.from c.args.to (g.S.RowStore.rows c.args.base.now) c.args.sum.now c.if-from-to.false
