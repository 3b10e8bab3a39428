use Rattle.table_sums.proofs.SumLemmas.{positions-more}
use Rattle.table_sums.proofs.running.positions_of.Goals as goal

pub loop-row-preserved : goal.loop-row-preserved
loop-row-preserved c =
    positions-more c.args.rows.now c.loop-row.row-index c.row-item.result c.loop-row.positions c.positions_at.result c.max-positions.result
    c.loop-row-test.true c.row-item.is
    c.loop-row.invariant c.positions_at.ensures.placed c.positions_at.ensures.least c.positions_at.ensures.few c.max-positions.ensures
