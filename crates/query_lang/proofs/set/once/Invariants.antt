use Rattle.std.proofs.Common.{◌≡◌, [], drop, nat_eq}
use Rattle.query_lang.specs.Once.{once_from}
use Rattle.query_lang.specs.Walk.{Knows}
use Rattle.query_lang.proofs.set.once.Given as goal

abbrev pub invariant-loop-number : goal.invariant-loop-number
invariant-loop-number l = record {
  known : Knows l.seen l.kept.items;
  rest : once_from nat_eq l.kept.items (drop l.number-index l.numbers) ≡ once_from nat_eq [] l.numbers;
}
