use Rattle.std.proofs.Common.{◌≡◌, map, take}
use Rattle.dh_metadata.specs.Approval.{tree_level}
use Rattle.dh_metadata.proofs.levels.tree_levels.Given as goal

abbrev pub invariant-loop-level : goal.invariant-loop-level
invariant-loop-level l = l.small ≡ map tree_level (take l.level-index l.levels)
