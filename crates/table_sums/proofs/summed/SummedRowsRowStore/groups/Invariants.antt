use Rattle.table_sums.proofs.summed.SummedRowsRowStore.groups.Given as goal

abbrev pub ghosts-groups_from : goal.ghosts-groups_from
ghosts-groups_from a = record { name = a.blank.name; parts = a.blank.parts }
