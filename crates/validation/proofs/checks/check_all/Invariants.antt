use Rattle.std.specs.Prelude.{All}
use Rattle.cell_values.specs.Seen.{seen_of, contents_of}
use Rattle.validation.specs.Check.{id_of, outcome_of}
use Rattle.validation.specs.Run.{IsRuleOf, AreKnownAt}
use Rattle.validation.proofs.CheckLemmas.{SoFar}
use Rattle.validation.proofs.checks.check_all.Given as goal

abbrev pub invariant-loop-number : goal.invariant-loop-number
invariant-loop-number g l = record {
  is : SoFar (id_of l.source.meta.now) (outcome_of l.source.meta.now l.source.seer.now.user
      (seen_of l.source.meta.now l.source.seer.now.user
      (contents_of (g.S.RowStore.rows l.source.store.now) (g.S.RowStore.events l.source.store.now) (g.S.RowStore.regs l.source.store.now)))
      l.spot.place) l.order l.number-index l.violations;
  rules : All (IsRuleOf l.source.meta.now) l.violations;
  known : AreKnownAt l.source.meta.now l.source.seer.now
      (contents_of (g.S.RowStore.rows l.source.store.now) (g.S.RowStore.events l.source.store.now) (g.S.RowStore.regs l.source.store.now))
      l.spot.place l.known.entries;
}
