use Rattle.std.proofs.Common.{◌≡◌, map, take}
use Rattle.std.specs.Prelude.{option_map}
use Rattle.std.specs.Option.{option_to_list}
use Rattle.program_cells.specs.Code.{sample_alone}
use Rattle.program_cells.proofs.sampled.samples_by_form.Given as goal

abbrev pub invariant-loop-event : goal.invariant-loop-event
invariant-loop-event l =
    map (option_map option_to_list) l.samples.items ≡ map (sample_alone l.code) (map (λ event. event.now) (take l.event-index l.events))
