use Rattle.std.proofs.Common.{refl}
use Rattle.table_build.proofs.NamedLemmas.{left-step}
use Rattle.latest_build.specs.Held.{row_left, rows_last}
use Rattle.latest_build.proofs.held.rows_last.Goals as goal

pub loop-i-preserved : goal.loop-i-preserved
loop-i-preserved c =
    left-step row_left rows_last (λ x xs. refl) c.args.held.now c.loop-i.i c.index-held-i.result c.row_left.result _ _ _ c.loop-i-test.true
    c.index-held-i.is c.row_left.ensures c.in_ok-put_found.ensures c.loop-i.invariant
