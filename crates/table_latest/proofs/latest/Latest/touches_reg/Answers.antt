use Rattle.table_latest.proofs.SearchLemmas.{reg_place_total}
use Rattle.table_latest.proofs.latest.Latest.touches_reg.Goals as goal

pub is_among-requires-clause-total : goal.is_among-requires-clause-total
is_among-requires-clause-total c = reg_place_total
