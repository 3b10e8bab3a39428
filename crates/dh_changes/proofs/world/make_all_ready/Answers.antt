use Rattle.std.proofs.Common.{[], subst}
use Rattle.std.proofs.lemmas.List.{take_all}
use Rattle.dh_changes.specs.Holds.{contents}
use Rattle.dh_changes.specs.Index.{AllReady}
use Rattle.dh_changes.proofs.IndexLemmas.{linked-same, same-through, ready-more}
use Rattle.dh_changes.proofs.world.make_all_ready.Goals as goal

pub loop-said-preserved : goal.loop-said-preserved
loop-said-preserved c =
    let i = c.loop-said.invariant in
    let made =
    ready-more c.args.index.now c.loop-said.index c.make_ready.new.index c.args.waiting.now c.loop-said.said-index c.said-item.result
    c.loop-said-test.true c.said-item.is c.make_ready.ensures.same c.make_ready.ensures.keeps c.in_ok-make_ready.ensures.ready i.same i.linked i.ready in
    record { same = made.0; linked = made.1; ready = made.2 }

pub returns-in_err-make_ready-clause-same : goal.returns-in_err-make_ready-clause-same
returns-in_err-make_ready-clause-same c =
    same-through (contents c.make_ready.new.index) [] (contents c.loop-said.index) [] (contents c.args.index.now) [] c.make_ready.ensures.same
    c.loop-said.invariant.same

pub returns-in_err-make_ready-clause-linked : goal.returns-in_err-make_ready-clause-linked
returns-in_err-make_ready-clause-linked c =
    linked-same c.loop-said.index c.make_ready.new.index c.make_ready.ensures.keeps c.make_ready.ensures.same c.loop-said.invariant.linked

pub returns-clause-ready : goal.returns-clause-ready
returns-clause-ready c =
    subst (AllReady c.loop-said.index) (take_all c.loop-said.said-index c.args.waiting.now c.loop-said-test.false) c.loop-said.invariant.ready
