use Rattle.std.proofs.Common.{◌≡◌, map, take}
use Rattle.org_tree.proofs.own_ids.ids.Given as goal

abbrev pub invariant-loop-unit : goal.invariant-loop-unit
invariant-loop-unit l = l.ids.items ≡ map (λ unit. unit.0) (take l.unit-index l.units)
