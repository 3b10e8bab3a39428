use Rattle.table_sums.specs.Gathered.{IsGathered}
use Rattle.table_sums.proofs.gather.gather.Given as goal

abbrev pub invariant-loop-row : goal.invariant-loop-row
invariant-loop-row l = IsGathered l.rows l.row-index l.gathered.groups.items l.gathered.starts.items l.gathered.members.items
