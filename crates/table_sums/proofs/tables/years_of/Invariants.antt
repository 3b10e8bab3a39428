use Rattle.std.proofs.Common.{◌≡◌, ◌++◌, drop}
use Rattle.table_sums.specs.YearParts.{years_in}
use Rattle.table_sums.proofs.tables.years_of.Given as goal

abbrev pub invariant-loop-part : goal.invariant-loop-part
invariant-loop-part l = years_in l.parts ≡ l.years.items ++ years_in (drop l.part-index l.parts)
