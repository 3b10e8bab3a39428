use Rattle.std.proofs.Common.{refl}
use Rattle.query_lang.specs.Units.{part_members}
use Rattle.query_lang.proofs.LoopLemmas.{flattened-more, flattened-all}
use Rattle.query_lang.proofs.units.members_of.Goals as goal

pub loop-part-preserved : goal.loop-part-preserved
loop-part-preserved c =
    flattened-more (part_members c.args.meta.now) c.args.parts.now c.loop-part.units.items _ c.push_members.new.units.items c.loop-part.part-index _ _
    c.loop-part-test.true refl c.in_ok-push_members.ensures c.loop-part.invariant

pub returns : goal.returns
unfolding Rattle.query_lang.specs.Units.members_of
returns c =
    flattened-all (part_members c.args.meta.now) c.args.parts.now c.loop-part.units.items c.loop-part.part-index c.loop-part-test.false
    c.loop-part.invariant
