use Rattle.std.proofs.Common.{◌≡◌, take}
use Rattle.std.specs.List.{filter}
use Rattle.table_rows.specs.Rows.{is_wanted}
use Rattle.table_rows.proofs.plain.rows_of.Given as goal

abbrev pub invariant-loop-row : goal.invariant-loop-row
invariant-loop-row l = l.found.items ≡ filter (is_wanted l.group l.need l.from l.to) (take l.row-index l.rows)
