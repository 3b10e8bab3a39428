use Rattle.dh_periods.proofs.CivilLemmas.{civil-found, civil-none}
use Rattle.dh_periods.proofs.dates.civil.Goals as goal

pub returns-clause-found : goal.returns-clause-found
returns-clause-found c = civil-found _ _ c.civil_in.ensures

pub returns-clause-none : goal.returns-clause-none
returns-clause-none c = civil-none _ _ c.civil_in.ensures
