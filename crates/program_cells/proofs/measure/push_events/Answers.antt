use Rattle.std.proofs.Common.{◌∙◌, ◌++◌, map, refl, ap}
use Rattle.std.proofs.lemmas.List.{take_all}
use Rattle.table_rows.specs.declared.event.EventRow.{EventRow}
use Rattle.program_cells.proofs.LoopLemmas.{listed_more}
use Rattle.program_cells.proofs.measure.push_events.Goals as goal

pub loop-event-preserved : goal.loop-event-preserved
loop-event-preserved c =
    listed_more (λ (event : EventRow). event.id) c.args.subject.now c.args.ids.now.items c.loop-event.ids.items c.push.new.self.items
    c.loop-event.event-index c.event-item.result c.event-item.result.id c.loop-event-test.true c.event-item.is c.loop-event.invariant
    c.in_ok-push.ensures.items refl

pub returns : goal.returns
returns c =
    c.loop-event.invariant
    ∙ ap (λ events. c.args.ids.now.items ++ map (λ (event : EventRow). event.id) events)
    (take_all c.loop-event.event-index c.args.subject.now c.loop-event-test.false)
