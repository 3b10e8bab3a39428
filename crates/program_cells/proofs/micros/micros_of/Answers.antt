use Rattle.std.proofs.Common.{◌∙◌, ◌++◌, ◌∷◌, [], ap, map, rules, w64, FitsSigned, to_z-of_z}
use Rattle.std.proofs.lemmas.List.{take_all}
use Rattle.program_cells.specs.Sampled.{item_sample}
use Rattle.program_cells.specs.Tally.{micro_sample}
use Rattle.program_cells.proofs.LoopLemmas.{viewed_more}
use Rattle.program_cells.proofs.micros.micros_of.Goals as goal

pub loop-event-preserved : goal.loop-event-preserved
loop-event-preserved c =
    let fits : FitsSigned w64 c.item.result = search rules in
    viewed_more micro_sample (item_sample c.args.asked.now) (λ event. event.now) c.args.events.now c.loop-event.found.items c.put.new.found.items
    c.loop-event.event-index c.event-item.result c.item.result c.loop-event-test.true c.event-item.is c.loop-event.invariant
    (c.in_ok-put.ensures ∙ ap (λ v. c.loop-event.found.items ++ v ∷ []) (to_z-of_z fits)) c.item.ensures

pub returns : goal.returns
returns c =
    c.loop-event.invariant
    ∙ ap (λ events. map (item_sample c.args.asked.now) (map (λ event. event.now) events))
    (take_all c.loop-event.event-index c.args.events.now c.loop-event-test.false)
