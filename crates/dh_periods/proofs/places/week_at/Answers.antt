use Rattle.std.proofs.Common.{◌∙◌}
use Rattle.dh_periods.proofs.InverseLemmas.{week-parts}
use Rattle.dh_periods.proofs.places.week_at.Goals as goal

pub returns-clause-year : goal.returns-clause-year
returns-clause-year c = (week-parts c.from_date.result c.args.place (c.from_date.ensures ∙ c.date_at.ensures.day_number)).0

pub returns-clause-week : goal.returns-clause-week
returns-clause-week c = (week-parts c.from_date.result c.args.place (c.from_date.ensures ∙ c.date_at.ensures.day_number)).1
