use Rattle.table_build.proofs.NamedLemmas.{found-step}
use Rattle.table_build.proofs.items.values_of.Goals as goal

pub loop-pair-preserved : goal.loop-pair-preserved
loop-pair-preserved g c =
    found-step (g.T.Valued.value c.args.meta.now) c.args.pairs.now c.loop-pair.pair-index c.pair-item.result c.value_of.result _ _ _ c.loop-pair-test.true
    c.pair-item.is c.value_of.ensures c.in_ok-put_found.ensures c.loop-pair.invariant
