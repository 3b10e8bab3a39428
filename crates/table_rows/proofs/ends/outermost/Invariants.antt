use Rattle.std.proofs.Common.{◌≤◌, ◌*◌, ◌^◌, unsigned_abs}
use Rattle.table_rows.specs.Ends.{order_of}
use Rattle.table_rows.proofs.EndLemmas.{IsRunAt}
use Rattle.table_rows.proofs.ends.outermost.Given as goal

abbrev pub invariant-loop-at : goal.invariant-loop-at
invariant-loop-at l = record {
  found : IsRunAt (order_of l.end) l.samples l.at l.run;
  best : l.run.best ≤ l.at;
  few : l.run.series ≤ l.at;
  size : unsigned_abs l.run.micros ≤ 2 ^ 64 * l.at;
}
