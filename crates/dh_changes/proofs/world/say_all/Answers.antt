use Rattle.std.proofs.Common.{◌∙◌, ap, map}
use Rattle.std.proofs.lemmas.List.{take_all}
use Rattle.dh_changes.specs.Said.{said_by}
use Rattle.dh_changes.proofs.LoopLemmas.{mapped-more}
use Rattle.dh_changes.proofs.world.say_all.Goals as goal

pub loop-write-preserved : goal.loop-write-preserved
loop-write-preserved c =
    mapped-more said_by c.args.writes.now c.loop-write.waiting.items c.push.new.self.items c.loop-write.write-index c.write-item.result
    c.in_ok-said_by.field-0 c.loop-write-test.true c.write-item.is c.loop-write.invariant c.in_ok-push.ensures.items c.in_ok-said_by.ensures

pub returns : goal.returns
returns c = c.loop-write.invariant ∙ ap (map said_by) (take_all c.loop-write.write-index c.args.writes.now c.loop-write-test.false)
