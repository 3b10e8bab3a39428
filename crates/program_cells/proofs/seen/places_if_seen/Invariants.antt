use Rattle.std.proofs.Common.{◌≡◌, map, take, true}
use Rattle.std.specs.List.{list_all}
use Rattle.program_cells.specs.Kept.{is_seen_during}
use Rattle.program_cells.specs.Places.{ArePlaces, order_of}
use Rattle.program_cells.proofs.seen.places_if_seen.Given as goal

abbrev pub invariant-loop-at : goal.invariant-loop-at
invariant-loop-at l =
    (list_all (is_seen_during l.meta l.seer.user l.program l.periods) (map (λ event. event.now) (take l.at l.events)) ≡ true)
    × ArePlaces order_of (map (λ event. event.now) (take l.at l.events)) l.places.items
