use Rattle.std.proofs.Common.{◌≡◌, drop}
use Rattle.std.specs.List.{filter_map}
use Rattle.std.specs.Ordering.{int_cmp}
use Rattle.dh_changes.specs.World.{facts}
use Rattle.table_build.specs.Left.{write_year}
use Rattle.table_build.specs.Ordered.{put_all}
use Rattle.table_build.proofs.left.put_writes.Given as goal

abbrev pub invariant-loop-write : goal.invariant-loop-write
invariant-loop-write l =
    put_all int_cmp (λ year. year) l.fn.years.entries (filter_map (write_year l.meta (facts l.world)) l.writes)
    ≡ put_all int_cmp (λ year. year) l.years.entries (filter_map (write_year l.meta (facts l.world)) (drop l.write-index l.writes))
