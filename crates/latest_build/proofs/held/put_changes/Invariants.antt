use Rattle.std.proofs.Common.{◌≡◌, ◌++◌, Some, drop, map}
use Rattle.std.specs.Arc.{arc_value}
use Rattle.std.specs.Prelude.{IfSome}
use Rattle.std.specs.List.{filter_map}
use Rattle.dh_metadata.specs.Objects.{find_of}
use Rattle.dh_metadata.specs.declared.kind.Kind.TheVariants.{CategoryOptionCombo}
use Rattle.dh_changes.specs.World.{facts}
use Rattle.table_build.specs.Log.{writes_of}
use Rattle.latest_build.specs.Told.{held_by_write}
use Rattle.latest_build.proofs.held.put_changes.Given as goal

abbrev pub invariant-loop-change : goal.invariant-loop-change
invariant-loop-change l =
    (l.fn.held.items ++ filter_map (held_by_write l.meta (facts l.world)) (writes_of (map arc_value l.changes))
    ≡ l.held.items ++ filter_map (held_by_write l.meta (facts l.world)) (writes_of (map arc_value (drop l.change-index l.changes))))
    × IfSome l.last (λ combo. find_of l.meta CategoryOptionCombo combo.id ≡ Some combo.number)
