use Rattle.std.proofs.Common.{◌≡◌}
use Rattle.table_rows.specs.Sums.{IsSized}
use Rattle.table_latest.proofs.GapLemmas.{IsAt, kept}
use Rattle.table_latest.proofs.gaps.sum_of_gaps.Given as goal

abbrev pub invariant-loop-i : goal.invariant-loop-i
invariant-loop-i g l = record {
  at : IsAt l.places l.from l.to l.low l.high l.i l.next;
  sum : l.sum ≡ kept l.places l.group l.need l.from l.next (g.S.RowStore.rows l.base);
  size : IsSized l.sum;
}
