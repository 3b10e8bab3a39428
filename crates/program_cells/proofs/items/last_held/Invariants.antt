use Rattle.std.proofs.Common.{◌≡◌, drop}
use Rattle.std.specs.Option.{option_or}
use Rattle.program_cells.specs.Items.{last_held}
use Rattle.program_cells.proofs.items.last_held.Given as goal

abbrev pub invariant-loop-event : goal.invariant-loop-event
invariant-loop-event l = last_held l.stage l.element l.subject ≡ option_or (last_held l.stage l.element (drop l.event-index l.subject)) l.found
