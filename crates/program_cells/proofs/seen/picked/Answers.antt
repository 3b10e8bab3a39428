use Rattle.std.proofs.Common.{◌∙◌, ap, map}
use Rattle.std.proofs.lemmas.List.{take_all}
use Rattle.program_cells.specs.Kept.{is_seen_during, seen_during}
use Rattle.program_cells.proofs.LoopLemmas.{kept_more}
use Rattle.program_cells.proofs.seen.picked.Goals as goal

pub loop-event-preserved : goal.loop-event-preserved
loop-event-preserved c =
    kept_more (λ event. event.now) (is_seen_during c.args.meta.now c.args.seer.now.user c.args.program c.args.periods.now) c.args.events.now
    c.loop-event.kept.items c.push_if.new.kept.items c.loop-event.event-index c.event-item.result c.is_seen_during-keeps.result
    c.loop-event-test.true c.event-item.is c.loop-event.invariant c.in_ok-push_if.ensures c.is_seen_during-keeps.ensures

pub returns : goal.returns
returns c =
    c.loop-event.invariant
    ∙ ap (λ events. seen_during c.args.meta.now c.args.seer.now.user c.args.program c.args.periods.now (map (λ event. event.now) events))
    (take_all c.loop-event.event-index c.args.events.now c.loop-event-test.false)
