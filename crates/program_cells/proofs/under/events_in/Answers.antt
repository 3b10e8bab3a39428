use Rattle.std.proofs.Common.{◌∙◌, ap, map}
use Rattle.std.specs.List.{filter}
use Rattle.std.proofs.lemmas.List.{take_all}
use Rattle.program_cells.specs.Cells.{alone}
use Rattle.program_cells.specs.Kept.{is_placed_in}
use Rattle.program_cells.proofs.under.events_in.Goals as goal

pub returns : goal.returns
returns c =
    c.loop-event.invariant
    ∙ ap (λ events. map alone (filter (is_placed_in c.args.ranges.now) (map (λ event. event.now) events)))
    (take_all c.loop-event.event-index c.args.events.now c.loop-event-test.false)
