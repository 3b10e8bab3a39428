use Rattle.std.proofs.Common.{◌≡◌, [], drop}
use Rattle.std.specs.List.{filter_map}
use Rattle.dh_changes.specs.World.{facts}
use Rattle.table_build.specs.Ordered.{put_all}
use Rattle.table_build.specs.Events.{place_cmp, place_of}
use Rattle.table_build.proofs.events.places_of.Given as goal

abbrev pub invariant-loop-id : goal.invariant-loop-id
invariant-loop-id l =
    put_all place_cmp (λ place. place) [] (filter_map (place_of (facts l.world)) l.ids)
    ≡ put_all place_cmp (λ place. place) l.map.entries (filter_map (place_of (facts l.world)) (drop l.id-index l.ids))
