use Rattle.std.proofs.Common.{◌≤◌, length}
use Rattle.cell_values.proofs.CountLemmas.{CountedIn}
use Rattle.cell_values.proofs.counts.how_many_within.Given as goal

abbrev pub invariant-loop-range : goal.invariant-loop-range
invariant-loop-range l = record {
  is : CountedIn l.numbers l.ranges l.range-index l.count;
  few : l.count ≤ length l.numbers;
}
