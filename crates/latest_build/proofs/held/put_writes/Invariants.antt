use Rattle.std.proofs.Common.{◌≡◌, ◌++◌, Some, drop}
use Rattle.std.specs.Prelude.{IfSome}
use Rattle.std.specs.List.{filter_map}
use Rattle.dh_metadata.specs.Objects.{find_of}
use Rattle.dh_metadata.specs.declared.kind.Kind.TheVariants.{CategoryOptionCombo}
use Rattle.dh_changes.specs.World.{facts}
use Rattle.latest_build.specs.Told.{held_by_write}
use Rattle.latest_build.proofs.held.put_writes.Given as goal

abbrev pub invariant-loop-write : goal.invariant-loop-write
invariant-loop-write l =
    (l.fn.held.items ++ filter_map (held_by_write l.meta (facts l.world)) l.writes
    ≡ l.held.items ++ filter_map (held_by_write l.meta (facts l.world)) (drop l.write-index l.writes))
    × IfSome l.last (λ combo. find_of l.meta CategoryOptionCombo combo.id ≡ Some combo.number)
