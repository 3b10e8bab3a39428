use Rattle.table_latest.proofs.SearchLemmas.{place_total}
use Rattle.table_latest.proofs.held.RowKeyed.is_touched.Goals as goal

pub is_among-requires-clause-total : goal.is_among-requires-clause-total
is_among-requires-clause-total c = place_total
