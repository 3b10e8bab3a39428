use Rattle.table_sums.proofs.YearPartLemmas.{reg_total}
use Rattle.table_sums.proofs.year_gather.with_regs.Goals as goal

pub merged-requires-clause-order : goal.merged-requires-clause-order
merged-requires-clause-order c = reg_total
