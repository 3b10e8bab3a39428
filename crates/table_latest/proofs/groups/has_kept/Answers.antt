use Rattle.table_latest.proofs.ReplacedLemmas.{clear-kept, kept-left}
use Rattle.table_latest.proofs.groups.has_kept.Goals as goal

pub returns-then-is_touched : goal.returns-then-is_touched
returns-then-is_touched g c =
    kept-left c.args.places.now c.args.group.now (g.S.RowStore.rows c.args.base.now) c.args.replaced.now.rows c.count_in.result
    c.count_in-then-is_touched.result c.requires.reach c.requires.replaced c.count_in.ensures c.count_in-then-is_touched.ensures

pub returns-else-is_touched : goal.returns-else-is_touched
returns-else-is_touched g c =
    clear-kept c.args.places.now c.args.group.now (g.S.RowStore.rows c.args.base.now) c.requires.some (c.is_touched.ensures c.if-is_touched.false)
