use Rattle.std.proofs.Common.{refl}
use Rattle.dh_changes.specs.World.{facts}
use Rattle.tracker_import.specs.Outcomes.{sofar_of}
use Rattle.tracker_import.specs.Verdicts.{deleted, with_one, with_each}
use Rattle.tracker_import.proofs.LoopLemmas.{folded-more}
use Rattle.tracker_import.proofs.verdict.with_each.Goals as goal

pub loop-asked-preserved : goal.loop-asked-preserved
loop-asked-preserved g c =
    let kind = g.T.Object in
    let asking = c.args.asking.now in
    let gone = deleted kind.owned_by kind.there kind.removal in
    let step = with_one kind.own gone kind.written (facts asking.world.now) asking.meta.now asking.who asking.strategy in
    let before = c.loop-asked.batch in
    let after = c.with_one.new.batch in
    record {
      sofar =
          folded-more (with_each step) step (λ x more s. refl) c.args.list.now c.loop-asked.asked-index c.asked-item.result
          (with_each step c.args.list.now (sofar_of c.args.batch.now.verdict c.args.batch.now.judged))
          (sofar_of before.verdict before.judged) (sofar_of after.verdict after.judged) c.loop-asked-test.true c.asked-item.is
          c.loop-asked.invariant.sofar c.in_ok-with_one.ensures.sofar;
      held = c.in_ok-with_one.ensures.held;
    }
