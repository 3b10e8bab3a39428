use Rattle.dh_changes.specs.Holds.{contents}
use Rattle.dh_changes.proofs.IndexLemmas.{turn, ready-first}
use Rattle.dh_changes.proofs.world.take_in_all.Goals as goal

pub loop-said-preserved : goal.loop-said-preserved
loop-said-preserved c =
    let i = c.loop-said.invariant in
    let kept = turn c.loop-said.index c.loop-said.waiting.items c.pop.new.self.items c.in-Some.said c.take_in.new.index (contents c.args.index.now) _
    c.in-Some.ensures.items c.take_in.ensures i.same i.linked i.ready in
    record { same = kept.0; linked = kept.1; ready = kept.2 }

pub take_in-requires : goal.take_in-requires
take_in-requires c =
    ready-first c.loop-said.index c.loop-said.waiting.items c.pop.new.self.items c.in-Some.said c.in-Some.ensures.items c.loop-said.invariant.ready
