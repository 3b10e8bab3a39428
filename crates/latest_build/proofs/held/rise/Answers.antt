use Rattle.std.proofs.Common.{◌∙◌, sym}
use Rattle.table_rows.specs.Order.{row_cmp}
use Rattle.table_rows.proofs.RiseLemmas.{rises-kept, rises-done}
use Rattle.latest_build.proofs.held.rise.Goals as goal

pub loop-i-preserved : goal.loop-i-preserved
loop-i-preserved c =
    rises-kept row_cmp c.args.rows.now c.loop-i.i c.index-rows-i.result c.index-rows-i-in-loop-i.result c.loop-i.auto.i c.loop-i-test.true c.index-rows-i.is
    c.index-rows-i-in-loop-i.is
    (sym c.if-not-is_before.false ∙ c.is_before.ensures) c.loop-i.invariant

pub returns : goal.returns
returns c = rises-done row_cmp c.args.rows.now c.loop-i.i c.loop-i-test.false c.loop-i.invariant
