use Rattle.table_sums.proofs.summed.SummedRowsRowStore.range_sum.Given as goal

abbrev pub ghosts-sum_from : goal.ghosts-sum_from
ghosts-sum_from a = record { name = a.blank.name; parts = a.blank.parts }
