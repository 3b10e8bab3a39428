use Rattle.std.proofs.Common.{◌∙◌, sym}
use Rattle.table_rows.proofs.RiseLemmas.{rises-kept, rises-done}
use Rattle.table_rows.proofs.ranked.rise.Goals as goal

pub loop-i-preserved : goal.loop-i-preserved
loop-i-preserved g c =
    rises-kept g.T.Ranked.rank c.args.list.now c.loop-i.i c.index-list-i.result c.index-list-i-in-loop-i.result c.loop-i.auto.i c.loop-i-test.true
    c.index-list-i.is c.index-list-i-in-loop-i.is
    (sym c.if-not-stands_before.false ∙ c.stands_before.ensures) c.loop-i.invariant

pub returns : goal.returns
returns g c = rises-done g.T.Ranked.rank c.args.list.now c.loop-i.i c.loop-i-test.false c.loop-i.invariant
