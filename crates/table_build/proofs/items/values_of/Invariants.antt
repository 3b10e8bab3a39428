use Rattle.std.proofs.Common.{◌≡◌, ◌++◌, drop}
use Rattle.std.specs.List.{filter_map}
use Rattle.table_build.proofs.items.values_of.Given as goal

abbrev pub invariant-loop-pair : goal.invariant-loop-pair
invariant-loop-pair g l =
    filter_map (g.T.Valued.value l.meta) l.pairs ≡ l.values.items ++ filter_map (g.T.Valued.value l.meta) (drop l.pair-index l.pairs)
