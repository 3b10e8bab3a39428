use Rattle.table_sums.proofs.summed.SummedRowsRowStore.rows_of.Given as goal

abbrev pub ghosts-rows_from : goal.ghosts-rows_from
ghosts-rows_from a = record { name = a.blank.name; parts = a.blank.parts }
