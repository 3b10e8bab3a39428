use Rattle.std.proofs.Common.{◌≡◌, ◌<◌, length, Some}
use Rattle.org_tree.specs.Units.{climb}
use Rattle.org_tree.proofs.levels.level_at.Given as goal

abbrev pub invariant-loop-above : goal.invariant-loop-above
invariant-loop-above l = record { in_range : l.at < length l.units; reached : climb l.above l.units l.unit ≡ Some l.at }
