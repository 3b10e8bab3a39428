use Rattle.std.proofs.Common.{◌≡◌, drop}
use Rattle.dh_changes.specs.World.{facts}
use Rattle.value_import.specs.Outcomes.{AreAtMost}
use Rattle.value_import.specs.Said.{AreSaid}
use Rattle.value_import.specs.Verdicts as verdicts
use Rattle.value_import.proofs.verdict.with_completions.Given as goal

abbrev pub invariant-loop-asked : goal.invariant-loop-asked
invariant-loop-asked l = record {
  at : l.index ≡ l.asked-index;
  told : verdicts.with_completions (facts l.asking.world.now) l.asking.meta.now l.asking.who l.asking.today l.index (drop l.asked-index l.list) l.batch.verdict
      ≡ verdicts.with_completions (facts l.asking.world.now) l.asking.meta.now l.asking.who l.asking.today 0 l.list l.fn.batch.verdict;
  said : AreSaid l.batch.values l.batch.registrations l.batch.verdict.writes;
  counts : AreAtMost l.index l.batch.verdict;
}
