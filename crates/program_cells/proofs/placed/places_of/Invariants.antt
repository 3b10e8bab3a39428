use Rattle.std.proofs.Common.{map, take}
use Rattle.program_cells.specs.Places.{ArePlaces, order_of}
use Rattle.program_cells.proofs.placed.places_of.Given as goal

abbrev pub invariant-loop-at : goal.invariant-loop-at
invariant-loop-at l = ArePlaces order_of (map (λ event. event.now) (take l.at l.events)) l.places.items
