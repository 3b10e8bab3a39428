use Rattle.table_rows.proofs.OrderLemmas.{group_total}
use Rattle.table_sums.proofs.year_gather.with_groups.Goals as goal

pub merged-requires-clause-order : goal.merged-requires-clause-order
merged-requires-clause-order c = group_total
