use Rattle.std.proofs.Common.{◌≡◌, map, take}
use Rattle.program_cells.specs.Sampled.{item_sample}
use Rattle.program_cells.specs.Tally.{micro_sample}
use Rattle.program_cells.proofs.micros.micros_of.Given as goal

abbrev pub invariant-loop-event : goal.invariant-loop-event
invariant-loop-event l =
    map micro_sample l.found.items ≡ map (item_sample l.asked) (map (λ event. event.now) (take l.event-index l.events))
