use Rattle.table_sums.proofs.SearchLemmas.{after-found, after-missing}
use Rattle.table_sums.proofs.find.count_upto.Goals as goal

pub returns-in-Ok-clause-later : goal.returns-in-Ok-clause-later
returns-in-Ok-clause-later c = after-found c.args.years.now c.args.year.now c.in-Ok.at c.requires c.in-Ok.ensures.bound c.in-Ok.ensures.ok

pub returns-in-Err-clause-later : goal.returns-in-Err-clause-later
returns-in-Err-clause-later c = after-missing c.args.years.now c.args.year.now c.in-Err.at c.requires c.in-Err.ensures.position
