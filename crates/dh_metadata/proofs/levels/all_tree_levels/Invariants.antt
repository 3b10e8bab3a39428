use Rattle.std.proofs.Common.{◌≡◌, map, take}
use Rattle.dh_metadata.specs.Approval.{tree_level}
use Rattle.dh_metadata.proofs.levels.all_tree_levels.Given as goal

abbrev pub invariant-loop-levels : goal.invariant-loop-levels
invariant-loop-levels l = l.small.items ≡ map (map tree_level) (take l.levels-index l.all)
