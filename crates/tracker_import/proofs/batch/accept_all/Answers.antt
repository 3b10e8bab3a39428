use Rattle.std.proofs.Common.{◌++◌}
use Rattle.std.specs.Vec.Iter.{into_iter_items}
use Rattle.tracker_import.proofs.LoopLemmas.{moved-more}
use Rattle.tracker_import.proofs.SaidLemmas.{said-more}
use Rattle.tracker_import.proofs.batch.accept_all.Goals as goal

pub loop-write-preserved : goal.loop-write-preserved
loop-write-preserved c =
    let before = c.loop-write.notes in
    let after = c.note.new.notes in
    record {
      writes =
          moved-more (c.args.writes.now ++ c.args.more) c.loop-write.writes c.push.new.self (into_iter_items c.loop-write.write-iterator)
          (into_iter_items c.next.new.self) c.in-Some.write c.loop-write.invariant.writes c.in-Some.ensures.steps.0 c.in_ok-push.ensures.ok;
      said =
          said-more c.loop-write.writes c.push.new.self c.in-Some.write before.entities after.entities before.enrollments after.enrollments
          before.events after.events c.loop-write.invariant.said c.in_ok-note.ensures.entity c.in_ok-note.ensures.enrollment c.in_ok-note.ensures.event
          c.in_ok-push.ensures.ok;
    }
