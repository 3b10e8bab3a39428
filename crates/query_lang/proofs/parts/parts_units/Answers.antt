use Rattle.std.proofs.Common.{refl}
use Rattle.query_lang.specs.Parts.{part_units}
use Rattle.query_lang.proofs.LoopLemmas.{flattened-more, flattened-all}
use Rattle.query_lang.proofs.parts.parts_units.Goals as goal

pub loop-part-preserved : goal.loop-part-preserved
loop-part-preserved c =
    flattened-more (part_units c.args.tree.now c.args.views.now) c.args.parts.now c.loop-part.units.items _ c.push_units.new.units.items
    c.loop-part.part-index _ _
    c.loop-part-test.true refl c.in_ok-push_units.ensures c.loop-part.invariant

pub returns : goal.returns
unfolding Rattle.query_lang.specs.Choice.parts_units
returns c =
    flattened-all (part_units c.args.tree.now c.args.views.now) c.args.parts.now c.loop-part.units.items c.loop-part.part-index c.loop-part-test.false
    c.loop-part.invariant
