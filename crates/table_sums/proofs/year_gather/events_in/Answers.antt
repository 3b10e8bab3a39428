use Rattle.std.proofs.Common.{◌∙◌, ap, map, ◌≡◌, ◌<◌, ◌++◌, length, sym, arith}
use Rattle.std.proofs.lemmas.List.{length-map}
use Rattle.table_rows.specs.Events.{events_of}
use Rattle.table_sums.specs.YearParts.{YearPart}
use Rattle.table_sums.proofs.EventLemmas.{events-start, events-done}
use Rattle.table_sums.proofs.YearPartLemmas.{years-rise-in}
use Rattle.table_sums.proofs.YearLemmas.{gathered-more}
use Rattle.table_sums.proofs.year_gather.events_in.Goals as goal

pub first_place-first-requires : goal.first_place-first-requires
first_place-first-requires c = years-rise-in c.args.parts.now c.args.years.now c.requires.parts c.requires.years

pub end_place-end-requires : goal.end_place-end-requires
end_place-end-requires c = years-rise-in c.args.parts.now c.args.years.now c.requires.parts c.requires.years

pub loop-place-init : goal.loop-place-init
loop-place-init c =
    ap (map (λ event. event.now)) c.new-events.ensures.items
    ∙ events-start c.args.parts.now c.args.years.now c.first_place-first.result c.args.asked.now.program c.args.asked.now.from_day c.args.asked.now.to_day
    c.requires.parts c.requires.years c.first_place-first.ensures

pub returns : goal.returns
returns c =
    events-done c.args.parts.now c.args.years.now c.loop-place.place c.end_place-end.result c.args.asked.now.program c.args.asked.now.from_day
    c.args.asked.now.to_day (map (λ event. event.now) c.loop-place.events.items) c.requires.parts c.requires.years c.loop-place-test.false
    c.end_place-end.ensures.later
    c.loop-place.invariant

pub loop-place-preserved : goal.loop-place-preserved
loop-place-preserved c =
    let parts = c.args.parts.now in
    let part = c.index-parts-place.result in
    let asked = c.args.asked.now in
    let many : length c.args.years.now ≡ length parts = ap length c.requires.years ∙ length-map parts (λ (p : YearPart). p.year) in
    let within : c.loop-place.place < length parts = omega (arith, many, c.end_place-end.ensures.most) in
    c.in_ok-add_events.ensures
    ∙ ap (λ found. found ++ events_of asked.program asked.from_day asked.to_day part.contents.events) c.loop-place.invariant
    ∙ sym (gathered-more (λ (p : YearPart). events_of asked.program asked.from_day asked.to_day p.contents.events) parts c.loop-place.place part within
    c.index-parts-place.is)

pub bounds-parts-place : goal.bounds-parts-place
bounds-parts-place c =
    let many : length c.args.years.now ≡ length c.args.parts.now = ap length c.requires.years ∙ length-map c.args.parts.now (λ (p : YearPart). p.year) in
    omega (arith, many, c.end_place-end.ensures.most)
