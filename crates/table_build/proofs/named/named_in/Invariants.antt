use Rattle.std.proofs.Common.{◌≡◌, ◌++◌, drop, map}
use Rattle.std.specs.Arc.{arc_value}
use Rattle.std.specs.List.{filter_map}
use Rattle.table_build.specs.Log.{writes_of}
use Rattle.table_build.proofs.named.named_in.Given as goal

abbrev pub invariant-loop-change : goal.invariant-loop-change
invariant-loop-change g l =
    filter_map g.T.Named.named (writes_of (map arc_value l.changes))
    ≡ l.keys.items ++ filter_map g.T.Named.named (writes_of (map arc_value (drop l.change-index l.changes)))
