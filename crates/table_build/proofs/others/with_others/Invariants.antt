use Rattle.std.proofs.Common.{◌≡◌, take, map}
use Rattle.std.specs.Arc.{arc_value}
use Rattle.table_build.specs.Log.{with_others}
use Rattle.table_build.proofs.others.with_others.Given as goal

abbrev pub invariant-loop-change : goal.invariant-loop-change
invariant-loop-change l = map arc_value l.kept.items ≡ with_others (map arc_value (take l.change-index l.changes))
