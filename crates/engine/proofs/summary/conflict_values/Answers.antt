use Rattle.serde_json.specs.View.{view}
use Rattle.engine.specs.Summary.{conflict_of}
use Rattle.engine.proofs.LoopLemmas.{made-all, made-more}
use Rattle.engine.proofs.summary.conflict_values.Goals as goal

pub loop-conflict-preserved : goal.loop-conflict-preserved
loop-conflict-preserved c =
    let now = c.loop-conflict in
    made-more view conflict_of c.args.conflicts.now now.values.items c.push.new.self.items now.conflict-index c.conflict-item.result
    c.in_ok-conflict_value.field-0 c.loop-conflict-test.true c.conflict-item.is now.invariant c.in_ok-push.ensures.items c.in_ok-conflict_value.ensures

pub returns : goal.returns
returns c =
    let now = c.loop-conflict in
    made-all view conflict_of c.args.conflicts.now now.values.items now.conflict-index c.loop-conflict-test.false now.invariant
