use Rattle.cell_values.proofs.SpanLemmas.{Counted}
use Rattle.cell_values.proofs.counts.covered.Given as goal

abbrev pub invariant-loop-range : goal.invariant-loop-range
invariant-loop-range l = Counted l.ranges l.range-index l.count
