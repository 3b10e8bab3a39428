use Rattle.table_rows.proofs.GroupLemmas.{Step, groups_upto}
use Rattle.table_rows.proofs.plain.groups.Given as goal

abbrev pub invariant-loop-row : goal.invariant-loop-row
invariant-loop-row l = Step (groups_upto l.element l.rows l.row-index) l.groups.items
