use Rattle.std.proofs.Common.{◌≡◌, ◌++◌, map, drop}
use Rattle.table_sums.specs.Columns.{number_of}
use Rattle.table_sums.proofs.rows.numbers_of.Given as goal

abbrev pub invariant-loop-row : goal.invariant-loop-row
invariant-loop-row l = map number_of l.rows ≡ l.numbers.items ++ map number_of (drop l.row-index l.rows)
