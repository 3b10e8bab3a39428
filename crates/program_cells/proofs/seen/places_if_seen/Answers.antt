use Rattle.std.proofs.Common.{◌∙◌, map, sym, ap, subst}
use Rattle.std.specs.List.{list_all}
use Rattle.std.proofs.lemmas.List.{take_all}
use Rattle.program_cells.specs.Kept.{is_seen_during}
use Rattle.program_cells.specs.Places.{ArePlaces, order_of}
use Rattle.program_cells.proofs.LoopLemmas.{all_more, placed_more}
use Rattle.program_cells.proofs.seen.places_if_seen.Goals as goal

pub loop-at-preserved : goal.loop-at-preserved
loop-at-preserved c =
    let seen = is_seen_during c.args.meta.now c.args.seer.now.user c.args.program c.args.periods.now in
    let events = c.args.events.now in
    let at = c.loop-at.at in
    let event = c.index-events-at.result in (
      all_more (λ event. event.now) seen events at event c.loop-at-test.true c.index-events-at.is c.loop-at.invariant.0
          (sym c.is_seen_during.ensures ∙ c.if-not-is_seen_during.false),
      placed_more order_of (λ event. event.now) events at event c.loop-at.places.items c.put.new.lists.items c.loop-at-test.true c.index-events-at.is
          c.loop-at.invariant.1 c.in_ok-put.ensures,
    )

pub returns-clause-seen : goal.returns-clause-seen
returns-clause-seen c =
    let seen = is_seen_during c.args.meta.now c.args.seer.now.user c.args.program c.args.periods.now in
    ap (λ events. list_all seen (map (λ event. event.now) events)) (sym (take_all c.loop-at.at c.args.events.now c.loop-at-test.false))
    ∙ c.loop-at.invariant.0

pub returns-clause-places : goal.returns-clause-places
returns-clause-places c =
    subst (λ events. ArePlaces order_of (map (λ event. event.now) events) c.loop-at.places.items)
    (take_all c.loop-at.at c.args.events.now c.loop-at-test.false) c.loop-at.invariant.1
