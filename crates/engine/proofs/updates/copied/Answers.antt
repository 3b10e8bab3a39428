use Rattle.std.specs.Arc.{arc_value}
use Rattle.engine.proofs.LoopLemmas.{made-all, made-more}
use Rattle.engine.proofs.updates.copied.Goals as goal

pub loop-change-preserved : goal.loop-change-preserved
loop-change-preserved c =
    let now = c.loop-change in
    made-more arc_value arc_value c.args.changes.now now.copy.items c.push.new.self.items now.change-index c.change-item.result c.in_ok-try_clone.field-0
    c.loop-change-test.true c.change-item.is now.invariant c.in_ok-push.ensures.items c.in_ok-try_clone.ensures

pub returns : goal.returns
returns c =
    let now = c.loop-change in
    made-all arc_value arc_value c.args.changes.now now.copy.items now.change-index c.loop-change-test.false now.invariant
