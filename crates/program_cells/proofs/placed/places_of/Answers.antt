use Rattle.std.proofs.Common.{map, subst}
use Rattle.std.proofs.lemmas.List.{take_all}
use Rattle.program_cells.specs.Places.{ArePlaces, order_of}
use Rattle.program_cells.proofs.LoopLemmas.{placed_more}
use Rattle.program_cells.proofs.placed.places_of.Goals as goal

pub loop-at-preserved : goal.loop-at-preserved
loop-at-preserved c =
    placed_more order_of (λ event. event.now) c.args.events.now c.loop-at.at c.index-events-at.result c.loop-at.places.items c.put.new.lists.items
    c.loop-at-test.true c.index-events-at.is c.loop-at.invariant c.in_ok-put.ensures

pub returns : goal.returns
returns c =
    subst (λ events. ArePlaces order_of (map (λ event. event.now) events) c.loop-at.places.items)
    (take_all c.loop-at.at c.args.events.now c.loop-at-test.false) c.loop-at.invariant
