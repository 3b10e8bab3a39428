use Rattle.std.proofs.Common.{◌≡◌, ◌≤◌, ◌*◌, ◌^◌, unsigned_abs, take}
use Rattle.std.specs.List.{filter}
use Rattle.table_rows.specs.Rows.{is_wanted}
use Rattle.table_rows.specs.Sums.{sum_over, sum_of_row}
use Rattle.table_rows.proofs.plain.range_sum.Given as goal

abbrev pub invariant-loop-row : goal.invariant-loop-row
invariant-loop-row l = record {
  is : l.sum ≡ sum_over sum_of_row (filter (is_wanted l.group l.need l.from l.to) (take l.row-index l.rows));
  size : unsigned_abs l.sum.micros ≤ 2 ^ 63 * l.sum.count;
  plain : l.sum.plain ≤ l.sum.count;
  few : l.sum.count ≤ l.row-index;
}
