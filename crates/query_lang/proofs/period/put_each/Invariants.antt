use Rattle.std.proofs.Common.{◌≡◌, drop}
use Rattle.query_lang.specs.Once.{KnowsPeriods}
use Rattle.query_lang.specs.Items.{periods_from}
use Rattle.query_lang.proofs.period.put_each.Given as goal

abbrev pub invariant-loop-text : goal.invariant-loop-text
invariant-loop-text l = record {
  known : KnowsPeriods l.seen l.kept.items;
  rest : periods_from l.day l.kept.items (drop l.text-index l.texts) ≡ periods_from l.day l.fn.kept.items l.texts;
}
