use Rattle.std.proofs.Common.{◌+◌, ◌-◌, length}
use Rattle.cell_values.proofs.CutLemmas.{Both}
use Rattle.cell_values.proofs.cuts.overlaps.Given as goal

abbrev pub invariant-loop-i : goal.invariant-loop-i
invariant-loop-i l = Both l.a l.b l.i l.j l.both.items

abbrev pub decreases-loop-i : goal.decreases-loop-i
decreases-loop-i l = (length l.a - l.i) + (length l.b - l.j)
