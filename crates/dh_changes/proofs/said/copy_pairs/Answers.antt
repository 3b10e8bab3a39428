use Rattle.std.proofs.Common.{◌∙◌, ap}
use Rattle.std.proofs.lemmas.List.{take_all}
use Rattle.dh_changes.proofs.LoopLemmas.{copied-more}
use Rattle.dh_changes.proofs.said.copy_pairs.Goals as goal

pub loop-pair-preserved : goal.loop-pair-preserved
loop-pair-preserved c =
    copied-more c.args.pairs.now c.loop-pair.copies.items c.push.new.self.items c.loop-pair.pair-index c.pair-item.result (c.pair-item.result.0, c.from-text.result)
    c.loop-pair-test.true c.pair-item.is c.loop-pair.invariant c.in_ok-push.ensures.items
    (ap (λ text. (c.pair-item.result.0, text)) (c.from-text.ensures ∙ c.in_ok-from_slice.ensures.items ∙ c.as_slice.ensures))

pub returns : goal.returns
returns c = c.from.ensures ∙ c.loop-pair.invariant ∙ take_all c.loop-pair.pair-index c.args.pairs.now c.loop-pair-test.false
