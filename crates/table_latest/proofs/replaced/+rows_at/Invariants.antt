use Rattle.std.proofs.Common.{length}
use Rattle.table_latest.proofs.replaced.+rows_at.Given as goal

abbrev pub decreases-rows_at : goal.decreases-rows_at
decreases-rows_at g l = length l.places.now
