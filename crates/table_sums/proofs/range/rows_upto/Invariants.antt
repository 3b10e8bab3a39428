use Rattle.std.proofs.Common.{◌≡◌}
use Rattle.std.specs.List.{filter}
use Rattle.table_sums.specs.Parts.{is_upto}
use Rattle.table_sums.proofs.range.rows_upto.Given as goal

abbrev pub invariant-loop-position : goal.invariant-loop-position
invariant-loop-position g l = l.found.items ≡ filter (is_upto l.part l.position) l.rows
