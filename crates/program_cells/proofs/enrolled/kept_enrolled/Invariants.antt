use Rattle.std.proofs.Common.{◌≡◌, map, take}
use Rattle.program_cells.specs.Kept.{seen_enrolled}
use Rattle.program_cells.proofs.enrolled.kept_enrolled.Given as goal

abbrev pub invariant-loop-event : goal.invariant-loop-event
invariant-loop-event l =
    l.kept.items ≡ seen_enrolled l.meta l.seer.user l.program (map (λ event. event.now) (take l.event-index l.events))
