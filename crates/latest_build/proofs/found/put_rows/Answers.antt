use Rattle.table_build.proofs.NamedLemmas.{found-step}
use Rattle.latest_build.specs.Found.{key_at}
use Rattle.latest_build.proofs.found.put_rows.Goals as goal

pub loop-row-preserved : goal.loop-row-preserved
loop-row-preserved c =
    found-step (key_at c.args.meta.now) c.args.rows.now c.loop-row.row-index c.row-item.result c.key_at.result _ _ _ c.loop-row-test.true
    c.row-item.is c.key_at.ensures c.in_ok-put_found.ensures c.loop-row.invariant
