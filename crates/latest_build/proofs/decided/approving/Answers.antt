use Rattle.std.proofs.Common.{◌∙◌, map, ap}
use Rattle.std.proofs.lemmas.List.{take_all}
use Rattle.dh_changes.specs.declared.change.Write.TheVariants as write
use Rattle.latest_build.proofs.LoopLemmas.{mapped-more}
use Rattle.latest_build.proofs.decided.approving.Goals as goal

pub loop-key-init : goal.loop-key-init
loop-key-init c = c.new-writes.ensures.items

pub loop-key-preserved : goal.loop-key-preserved
loop-key-preserved c =
    mapped-more write.Approve c.args.keys.now c.loop-key.writes.items c.push.new.self.items c.loop-key.key-index c.key-item.result c.loop-key-test.true
    c.key-item.is c.loop-key.invariant c.in_ok-push.ensures.items

pub returns : goal.returns
returns c = c.loop-key.invariant ∙ ap (map write.Approve) (take_all c.loop-key.key-index c.args.keys.now c.loop-key-test.false)
