use Rattle.std.proofs.Common.{◌∙◌, ◌+◌, refl, ap}
use Rattle.dh_changes.specs.World.{facts}
use Rattle.value_import.specs.Outcomes.{taken}
use Rattle.value_import.specs.Verdicts as verdicts
use Rattle.value_import.specs.Verdicts.{with_value}
use Rattle.value_import.proofs.LoopLemmas.{numbered-more}
use Rattle.value_import.proofs.verdict.with_set.Goals as goal

pub loop-value-preserved : goal.loop-value-preserved
unfolding with_value
loop-value-preserved c =
    let asking = c.args.asking.now in
    let all = verdicts.with_values (facts asking.world.now) asking.meta.now asking.who asking.today c.args.set.now in
    let one = with_value (facts asking.world.now) asking.meta.now asking.who asking.today c.args.set.now in
    record {
      at = ap (λ n. n + 1) c.loop-value.invariant.at;
      told =
          numbered-more all one (λ n x more s. refl) c.as_slice-values.result.now c.loop-value.index c.loop-value.value-index c.value-item.result
          (all 0 c.as_slice-values.result.now c.args.batch.now.verdict)
          c.loop-value.batch.verdict c.take_in.new.batch.verdict c.loop-value-test.true c.value-item.is c.loop-value.invariant.told
          (c.in_ok-take_in.ensures.verdict ∙ ap (λ judged. taken c.loop-value.index judged c.loop-value.batch.verdict) c.in_ok-judged.ensures);
      said = c.in_ok-take_in.ensures.said;
      counts = c.in_ok-take_in.ensures.counts;
    }
