use Rattle.change_log.proofs.Calendar.{first-day, last-day}
use Rattle.change_log.proofs.laws.days_are_of_the_years.Goals as goal

pub returns-clause-first : goal.returns-clause-first
returns-clause-first c = first-day

pub returns-clause-last : goal.returns-clause-last
returns-clause-last c = last-day
