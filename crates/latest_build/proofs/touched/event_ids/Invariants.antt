use Rattle.std.proofs.Common.{◌≡◌, [], drop}
use Rattle.std.specs.Cmp.Lexicographic.{slice_cmp}
use Rattle.std.specs.Ordering.{nat_cmp}
use Rattle.table_build.specs.Ordered.{put_all}
use Rattle.latest_build.proofs.touched.event_ids.Given as goal

abbrev pub invariant-loop-id : goal.invariant-loop-id
invariant-loop-id l =
    put_all (slice_cmp nat_cmp) (λ id. id) [] l.ids ≡ put_all (slice_cmp nat_cmp) (λ id. id) l.map.entries (drop l.id-index l.ids)
