use Rattle.dh_periods.proofs.TypeLemmas.{type_named-found, type_named-none}
use Rattle.dh_periods.proofs.kind.PeriodType.parse.Goals as goal

pub returns-clause-none : goal.returns-clause-none
returns-clause-none c = type_named-none _ _ c.type_named.ensures

pub returns-clause-found : goal.returns-clause-found
returns-clause-found c = type_named-found _ _ c.type_named.ensures
