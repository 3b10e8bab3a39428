use Rattle.table_latest.proofs.ReplacedLemmas.{left-summed, part-counts, part-plain}
use Rattle.table_latest.proofs.kept.kept_sum.Goals as goal

pub without-requires-clause-count : goal.without-requires-clause-count
without-requires-clause-count g c =
    part-counts c.args.latest.now.touched.rows c.args.asked.now.group c.args.asked.now.need c.args.asked.now.from c.args.asked.now.to
    (g.S.RowStore.rows c.args.base.now) c.range_sum-all.result c.range_sum-part.result c.args.replaced.now.rows c.range_sum-all.ensures.sum
    c.requires.replaced c.range_sum-part.ensures.sum

pub without-requires-clause-plain : goal.without-requires-clause-plain
without-requires-clause-plain g c =
    part-plain c.args.latest.now.touched.rows c.args.asked.now.group c.args.asked.now.need c.args.asked.now.from c.args.asked.now.to
    (g.S.RowStore.rows c.args.base.now) c.range_sum-all.result c.range_sum-part.result c.args.replaced.now.rows c.range_sum-all.ensures.sum
    c.requires.replaced c.range_sum-part.ensures.sum

pub returns-in-Some-clause-sum : goal.returns-in-Some-clause-sum
returns-in-Some-clause-sum g c =
    left-summed c.args.latest.now.touched.rows c.args.asked.now.group c.args.asked.now.need c.args.asked.now.from c.args.asked.now.to
    (g.S.RowStore.rows c.args.base.now) c.range_sum-all.result c.range_sum-part.result c.args.replaced.now.rows c.range_sum-all.ensures.sum
    c.requires.replaced c.range_sum-part.ensures.sum c.in-Some.left c.in-Some.ensures.left
