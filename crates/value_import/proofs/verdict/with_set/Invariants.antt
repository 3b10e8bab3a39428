use Rattle.std.proofs.Common.{◌≡◌, drop}
use Rattle.dh_changes.specs.World.{facts}
use Rattle.value_import.specs.Outcomes.{AreAtMost}
use Rattle.value_import.specs.Said.{AreSaid}
use Rattle.value_import.specs.Verdicts as verdicts
use Rattle.value_import.proofs.verdict.with_set.Given as goal

abbrev pub invariant-loop-value : goal.invariant-loop-value
invariant-loop-value l = record {
  at : l.index ≡ l.value-index;
  told :
      verdicts.with_values (facts l.asking.world.now) l.asking.meta.now l.asking.who l.asking.today l.set l.index (drop l.value-index l.values) l.batch.verdict
      ≡ verdicts.with_values (facts l.asking.world.now) l.asking.meta.now l.asking.who l.asking.today l.set 0 l.values l.fn.batch.verdict;
  said : AreSaid l.batch.values l.batch.registrations l.batch.verdict.writes;
  counts : AreAtMost l.index l.batch.verdict;
}
