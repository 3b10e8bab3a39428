use Rattle.std.proofs.Common.{◌≡◌, [], drop}
use Rattle.query_lang.specs.Once.{same_bytes, once_from, KnowsTexts}
use Rattle.query_lang.proofs.once.texts_once.Given as goal

abbrev pub invariant-loop-text : goal.invariant-loop-text
invariant-loop-text l = record {
  known : KnowsTexts l.seen l.kept.items;
  rest : once_from same_bytes l.kept.items (drop l.text-index l.texts) ≡ once_from same_bytes [] l.texts;
}
