use Rattle.std.proofs.Common.{◌≡◌, ◌-◌, drop}
use Rattle.table_rows.specs.Store.{rises}
use Rattle.table_rows.proofs.ranked.rise.Given as goal

abbrev pub invariant-loop-i : goal.invariant-loop-i
invariant-loop-i g l = rises g.T.Ranked.rank l.list ≡ rises g.T.Ranked.rank (drop (l.i - 1) l.list)
