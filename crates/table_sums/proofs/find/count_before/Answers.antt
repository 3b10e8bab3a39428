use Rattle.table_sums.proofs.SearchLemmas.{before-found, before-missing}
use Rattle.table_sums.proofs.find.count_before.Goals as goal

pub returns-in-Ok : goal.returns-in-Ok
returns-in-Ok c = before-found c.args.years.now c.args.year.now c.in-Ok.at c.requires c.in-Ok.ensures.bound c.in-Ok.ensures.ok

pub returns-in-Err : goal.returns-in-Err
returns-in-Err c = before-missing c.args.years.now c.args.year.now c.in-Err.at c.requires c.in-Err.ensures.position
