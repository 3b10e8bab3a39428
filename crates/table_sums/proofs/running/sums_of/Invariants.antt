use Rattle.std.proofs.Common.{◌≡◌, ◌≤◌, ◌*◌, ◌^◌, unsigned_abs, take}
use Rattle.std.specs.Prelude.{All}
use Rattle.table_rows.specs.Sums.{sum_of_rows}
use Rattle.table_sums.specs.Running.{AreSums, IsFit}
use Rattle.table_sums.proofs.running.sums_of.Given as goal

abbrev pub invariant-loop-row : goal.invariant-loop-row
invariant-loop-row l = record {
  is : l.sum ≡ sum_of_rows (take l.row-index l.rows);
  size : unsigned_abs l.sum.micros ≤ 2 ^ 63 * l.sum.count;
  plain : l.sum.plain ≤ l.sum.count;
  few : l.sum.count ≤ l.row-index;
  sums : AreSums l.rows l.row-index l.sums.micros.items l.sums.plain.items;
  fit : All IsFit (take l.row-index l.rows);
}
