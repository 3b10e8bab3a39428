use Rattle.std.proofs.Common.{◌≡◌, [], drop, map}
use Rattle.std.specs.Arc.{arc_value}
use Rattle.std.specs.List.{filter_map}
use Rattle.std.specs.Ordering.{int_cmp}
use Rattle.dh_changes.specs.World.{facts}
use Rattle.table_build.specs.Left.{write_year}
use Rattle.table_build.specs.Log.{writes_of}
use Rattle.table_build.specs.Ordered.{put_all}
use Rattle.table_build.proofs.left.years_named.Given as goal

abbrev pub invariant-loop-change : goal.invariant-loop-change
invariant-loop-change l =
    put_all int_cmp (λ year. year) [] (filter_map (write_year l.meta (facts l.world)) (writes_of (map arc_value l.changes)))
    ≡ put_all int_cmp (λ year. year) l.years.entries
    (filter_map (write_year l.meta (facts l.world)) (writes_of (map arc_value (drop l.change-index l.changes))))
