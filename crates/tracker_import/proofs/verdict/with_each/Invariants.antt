use Rattle.std.proofs.Common.{◌≡◌, drop}
use Rattle.dh_changes.specs.World.{facts}
use Rattle.tracker_import.specs.Batches.{IsBatch}
use Rattle.tracker_import.specs.Outcomes.{sofar_of}
use Rattle.tracker_import.specs.Verdicts.{deleted, with_one, with_each}
use Rattle.tracker_import.proofs.verdict.with_each.Given as goal

abbrev pub invariant-loop-asked : goal.invariant-loop-asked
invariant-loop-asked g l =
    let kind = g.T.Object in
    let gone = deleted kind.owned_by kind.there kind.removal in
    let step = with_one kind.own gone kind.written (facts l.asking.world.now) l.asking.meta.now l.asking.who l.asking.strategy in
    record {
      sofar : with_each step l.list (sofar_of l.fn.batch.verdict l.fn.batch.judged)
          ≡ with_each step (drop l.asked-index l.list) (sofar_of l.batch.verdict l.batch.judged);
      held : IsBatch l.batch;
    }
