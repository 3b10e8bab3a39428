use Rattle.table_sums.proofs.YearPartLemmas.{GroupsUpto}
use Rattle.table_sums.proofs.year_gather.groups_in.Given as goal

abbrev pub invariant-loop-part : goal.invariant-loop-part
invariant-loop-part l = GroupsUpto l.parts l.element l.part-index l.groups.items
