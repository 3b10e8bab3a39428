use Rattle.table_latest.proofs.SearchLemmas.{id_total}
use Rattle.table_latest.proofs.latest.Latest.touches_event.Goals as goal

pub is_among-requires-clause-total : goal.is_among-requires-clause-total
is_among-requires-clause-total c = id_total
