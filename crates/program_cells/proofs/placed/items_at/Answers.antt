use Rattle.std.proofs.Common.{ℕ, get_or, ◌∙◌, slice_get, ap}
use Rattle.std.proofs.lemmas.List.{get_or_default, take_all}
use Rattle.std.specs.List.{filter_map}
use Rattle.program_cells.proofs.PlaceLemmas.{item-more}
use Rattle.program_cells.proofs.placed.items_at.Goals as goal

pub loop-place-preserved : goal.loop-place-preserved
loop-place-preserved g c =
    let places = c.args.places.now in
    let at = c.loop-place.place-index in
    let place : ℕ = get_or places at 0 in
    item-more c.args.items.now places at place c.loop-place.kept.items c.put_item.new.kept.items c.loop-place-test.true
    (get_or_default places at 0 place c.loop-place-test.true) c.loop-place.invariant c.in_ok-put_item.ensures

pub returns : goal.returns
returns g c =
    c.loop-place.invariant ∙ ap (filter_map (slice_get c.args.items.now)) (take_all c.loop-place.place-index c.args.places.now c.loop-place-test.false)

pub loop-place-init : goal.loop-place-init
loop-place-init g c = c.in_ok-kept.ensures.items
