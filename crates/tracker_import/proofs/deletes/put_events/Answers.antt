use Rattle.std.proofs.Common.{◌++◌, map, refl}
use Rattle.dh_changes.specs.declared.change.Write.TheVariants as write
use Rattle.tracker_import.proofs.LoopLemmas.{mapped-rest, mapped-all}
use Rattle.tracker_import.proofs.deletes.put_events.Goals as goal

pub loop-id-preserved : goal.loop-id-preserved
loop-id-preserved c =
    mapped-rest write.EventDeleted c.args.ids.now (c.args.writes.now ++ map write.EventDeleted c.args.ids.now) c.loop-id.writes c.push.new.self
    c.loop-id.id-index c.id-item.result (write.EventDeleted c.id-item.result) c.loop-id-test.true c.id-item.is c.loop-id.invariant refl c.in_ok-push.ensures.ok

pub returns : goal.returns
returns c =
    mapped-all write.EventDeleted c.args.ids.now (c.args.writes.now ++ map write.EventDeleted c.args.ids.now) c.loop-id.writes
    c.loop-id.id-index c.loop-id-test.false c.loop-id.invariant
