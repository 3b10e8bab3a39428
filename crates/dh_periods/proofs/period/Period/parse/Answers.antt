use Rattle.dh_periods.proofs.TextLemmas.{parsed-found, parsed-none}
use Rattle.dh_periods.proofs.period.Period.parse.Goals as goal

pub returns-clause-found : goal.returns-clause-found
returns-clause-found c = parsed-found _ _ c.period_in.ensures

pub returns-clause-none : goal.returns-clause-none
returns-clause-none c = parsed-none _ _ c.period_in.ensures
