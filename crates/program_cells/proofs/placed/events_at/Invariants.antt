use Rattle.std.proofs.Common.{◌≡◌, map, take, slice_get}
use Rattle.std.specs.List.{filter_map}
use Rattle.program_cells.specs.Cells.{alone}
use Rattle.program_cells.proofs.placed.events_at.Given as goal

abbrev pub invariant-loop-place : goal.invariant-loop-place
invariant-loop-place l =
    map (λ subject. subject.now) l.kept.items
    ≡ map alone (filter_map (slice_get (map (λ event. event.now) l.events)) (take l.place-index l.places))
