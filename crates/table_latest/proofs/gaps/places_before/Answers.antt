use Rattle.table_latest.proofs.SearchLemmas.{place_total}
use Rattle.table_latest.proofs.gaps.places_before.Goals as goal

pub cut_at-requires-clause-total : goal.cut_at-requires-clause-total
cut_at-requires-clause-total c = place_total
