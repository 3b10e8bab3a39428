use Rattle.std.proofs.Common.{◌≡◌, ◌<◌, length, Some}
use Rattle.org_tree.specs.Units.{climb}
use Rattle.org_tree.proofs.tree.raised.Given as goal

abbrev pub invariant-loop : goal.invariant-loop
invariant-loop l = record { in_range : l.at < length l.units; reached : climb l.counter l.units l.unit ≡ Some l.at }
