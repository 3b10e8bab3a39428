use Rattle.std.proofs.Common.{◌∙◌, ℕ, ap, get_or, map, slice_get}
use Rattle.std.specs.List.{filter_map}
use Rattle.std.proofs.lemmas.List.{get_or_default, take_all}
use Rattle.program_cells.specs.Cells.{alone}
use Rattle.program_cells.proofs.PlaceLemmas.{picked-more}
use Rattle.program_cells.proofs.placed.events_at.Goals as goal

pub loop-place-preserved : goal.loop-place-preserved
loop-place-preserved c =
    let places = c.args.places.now in
    let at = c.loop-place.place-index in
    let place : ℕ = get_or places at 0 in
    picked-more (λ subject. subject.now) alone (map (λ event. event.now) c.args.events.now) places at place c.loop-place.kept.items
    c.put_at.new.kept.items c.loop-place-test.true
    (get_or_default places at 0 place c.loop-place-test.true) c.loop-place.invariant c.in_ok-put_at.ensures

pub returns : goal.returns
returns c =
    c.loop-place.invariant
    ∙ ap (λ places. map alone (filter_map (slice_get (map (λ event. event.now) c.args.events.now)) places))
    (take_all c.loop-place.place-index c.args.places.now c.loop-place-test.false)
