use Rattle.std.proofs.Common.{◌∙◌, ◌+◌, refl, ap}
use Rattle.dh_changes.specs.World.{facts}
use Rattle.value_import.specs.Outcomes.{taken}
use Rattle.value_import.specs.Verdicts as verdicts
use Rattle.value_import.specs.Verdicts.{with_completion}
use Rattle.value_import.proofs.LoopLemmas.{numbered-more}
use Rattle.value_import.proofs.verdict.with_completions.Goals as goal

pub loop-asked-preserved : goal.loop-asked-preserved
unfolding with_completion
loop-asked-preserved c =
    let asking = c.args.asking.now in
    let all = verdicts.with_completions (facts asking.world.now) asking.meta.now asking.who asking.today in
    let one = with_completion (facts asking.world.now) asking.meta.now asking.who asking.today in
    record {
      at = ap (λ n. n + 1) c.loop-asked.invariant.at;
      told =
          numbered-more all one (λ n x more s. refl) c.args.list.now c.loop-asked.index c.loop-asked.asked-index c.asked-item.result
          (all 0 c.args.list.now c.args.batch.now.verdict)
          c.loop-asked.batch.verdict c.take_in.new.batch.verdict c.loop-asked-test.true c.asked-item.is c.loop-asked.invariant.told
          (c.in_ok-take_in.ensures.verdict ∙ ap (λ judged. taken c.loop-asked.index judged c.loop-asked.batch.verdict) c.judge_completion.ensures);
      said = c.in_ok-take_in.ensures.said;
      counts = c.in_ok-take_in.ensures.counts;
    }
