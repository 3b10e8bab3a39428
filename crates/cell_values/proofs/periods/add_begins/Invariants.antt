use Rattle.cell_values.proofs.PeriodLemmas.{Begins}
use Rattle.cell_values.proofs.periods.add_begins.Given as goal

abbrev pub invariant-loop-place : goal.invariant-loop-place
invariant-loop-place l = Begins l.kind l.period l.fn.begins.items l.place l.begins.items
