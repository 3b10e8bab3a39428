use Rattle.std.proofs.Common.{◌≡◌, map, take}
use Rattle.program_cells.specs.Kept.{seen_during}
use Rattle.program_cells.proofs.seen.picked.Given as goal

abbrev pub invariant-loop-event : goal.invariant-loop-event
invariant-loop-event l =
    map (λ event. event.now) l.kept.items
    ≡ seen_during l.meta l.seer.user l.program l.periods (map (λ event. event.now) (take l.event-index l.events))
