use Rattle.std.proofs.Common.{◌≡◌, map, take}
use Rattle.std.specs.List.{filter}
use Rattle.program_cells.specs.Cells.{alone}
use Rattle.program_cells.specs.Kept.{is_placed_in}
use Rattle.program_cells.proofs.under.events_in.Given as goal

abbrev pub invariant-loop-event : goal.invariant-loop-event
invariant-loop-event l =
    map (λ subject. subject.now) l.kept.items
    ≡ map alone (filter (is_placed_in l.ranges) (map (λ event. event.now) (take l.event-index l.events)))
