use Rattle.std.proofs.Common.{◌≡◌, ◌++◌, Some, drop}
use Rattle.std.specs.Prelude.{IfSome}
use Rattle.std.specs.List.{filter_map}
use Rattle.dh_metadata.specs.Objects.{find_of}
use Rattle.dh_metadata.specs.declared.kind.Kind.TheVariants.{CategoryOptionCombo}
use Rattle.dh_changes.specs.World.{facts}
use Rattle.latest_build.specs.Held.{held_at}
use Rattle.latest_build.proofs.held.put_keys.Given as goal

abbrev pub invariant-loop-key : goal.invariant-loop-key
invariant-loop-key l =
    (l.fn.held.items ++ filter_map (held_at l.meta (facts l.world)) l.keys ≡ l.held.items ++ filter_map (held_at l.meta (facts l.world))
    (drop l.key-index l.keys))
    × IfSome l.last (λ combo. find_of l.meta CategoryOptionCombo combo.id ≡ Some combo.number)
