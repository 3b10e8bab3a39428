use Rattle.std.proofs.Common.{◌≡◌, [], drop}
use Rattle.std.specs.List.{filter_map}
use Rattle.dh_changes.specs.World.{facts}
use Rattle.table_build.specs.Ordered.{put_all}
use Rattle.table_latest.specs.Keys.{reg_place_cmp}
use Rattle.latest_build.specs.Places.{reg_place}
use Rattle.latest_build.proofs.touched.reg_places.Given as goal

abbrev pub invariant-loop-key : goal.invariant-loop-key
invariant-loop-key l =
    put_all reg_place_cmp (λ place. place) [] (filter_map (reg_place l.meta (facts l.world)) l.keys)
    ≡ put_all reg_place_cmp (λ place. place) l.map.entries (filter_map (reg_place l.meta (facts l.world)) (drop l.key-index l.keys))
