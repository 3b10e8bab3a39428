use Rattle.table_rows.proofs.OrderLemmas.{group_total}
use Rattle.table_latest.proofs.groups.is_kept.Goals as goal

pub is_among-requires-clause-total : goal.is_among-requires-clause-total
is_among-requires-clause-total g c = group_total
