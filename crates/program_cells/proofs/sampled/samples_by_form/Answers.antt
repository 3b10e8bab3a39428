use Rattle.std.proofs.Common.{◌∙◌, map, ap}
use Rattle.std.specs.Prelude.{option_map}
use Rattle.std.specs.Option.{option_to_list}
use Rattle.std.proofs.lemmas.List.{take_all}
use Rattle.program_cells.specs.Code.{sample_alone}
use Rattle.program_cells.proofs.LoopLemmas.{viewed_more}
use Rattle.program_cells.proofs.sampled.samples_by_form.Goals as goal

pub loop-event-preserved : goal.loop-event-preserved
loop-event-preserved c =
    viewed_more (option_map option_to_list) (sample_alone c.args.code.now) (λ event. event.now) c.args.events.now c.loop-event.samples.items
    c.push.new.self.items c.loop-event.event-index c.event-item.result c.in_ok-sample_of.field-0 c.loop-event-test.true c.event-item.is
    c.loop-event.invariant c.in_ok-push.ensures.items c.in_ok-sample_of.ensures

pub returns : goal.returns
returns c =
    c.loop-event.invariant
    ∙ ap (λ events. map (sample_alone c.args.code.now) (map (λ event. event.now) events))
    (take_all c.loop-event.event-index c.args.events.now c.loop-event-test.false)
