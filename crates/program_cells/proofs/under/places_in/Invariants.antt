use Rattle.std.proofs.Common.{◌≡◌, map, take}
use Rattle.program_cells.specs.Kept.{is_placed_in}
use Rattle.program_cells.specs.Places.{places_from}
use Rattle.program_cells.proofs.under.places_in.Given as goal

abbrev pub invariant-loop-at : goal.invariant-loop-at
invariant-loop-at l = l.own.items ≡ places_from 0 (is_placed_in l.ranges) (map (λ event. event.now) (take l.at l.events))
