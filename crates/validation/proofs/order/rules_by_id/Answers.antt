use Rattle.std.proofs.Common.{◌∙◌, ◌+◌, ◌<◌, drop, ap, subst, sym}
use Rattle.dh_metadata.specs.Sets.{put_by_id}
use Rattle.validation.specs.Check.{rule_ids}
use Rattle.validation.proofs.OrderLemmas.{put-more}
use Rattle.validation.proofs.order.rules_by_id.Goals as goal

pub loop-number-preserved : goal.loop-number-preserved
loop-number-preserved c =
    let n = c.loop-number.number in
    c.loop-number.invariant
    ∙ put-more c.args.meta.now n c.rule.result.now c.loop-number.map.entries
    (subst (λ k. n < k) c.count-number-end.ensures c.loop-number-test.true) c.rule.ensures.value
    ∙ ap (λ es. put_by_id es (n + 1) (drop (n + 1) (rule_ids c.args.meta.now))) (sym c.in_ok-insert.ensures.entries)
