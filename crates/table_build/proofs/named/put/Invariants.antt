use Rattle.std.proofs.Common.{◌≡◌, ◌++◌, drop}
use Rattle.std.specs.List.{filter_map}
use Rattle.table_build.proofs.named.put.Given as goal

abbrev pub invariant-loop-write : goal.invariant-loop-write
invariant-loop-write g l =
    l.fn.keys.items ++ filter_map g.T.Named.named l.writes ≡ l.keys.items ++ filter_map g.T.Named.named (drop l.write-index l.writes)
