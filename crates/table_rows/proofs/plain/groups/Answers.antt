use Rattle.table_rows.proofs.GroupLemmas.{groups-more}
use Rattle.table_rows.proofs.plain.groups.Goals as goal

pub loop-row-preserved : goal.loop-row-preserved
loop-row-preserved c =
    groups-more c.args.element c.args.rows.now c.loop-row.row-index c.row-item.result c.loop-row.groups.items c.add_group.new.groups.items
    c.requires c.loop-row-test.true c.row-item.is c.loop-row.invariant c.in_ok-add_group.ensures
