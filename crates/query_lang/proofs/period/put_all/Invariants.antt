use Rattle.std.proofs.Common.{◌≡◌, drop}
use Rattle.dh_periods.specs.Keys.{same_period}
use Rattle.query_lang.specs.Once.{once_from, KnowsPeriods}
use Rattle.query_lang.proofs.period.put_all.Given as goal

abbrev pub invariant-loop-period : goal.invariant-loop-period
invariant-loop-period l = record {
  known : KnowsPeriods l.seen l.kept.items;
  rest : once_from same_period l.kept.items (drop l.period-index l.periods) ≡ once_from same_period l.fn.kept.items l.periods;
}
