use Rattle.std.proofs.Common.{◌≡◌, ◌∙◌, IfOk, IfSome, ap, map, slice_get, subst}
use Rattle.std.specs.List.{filter_map}
use Rattle.program_cells.specs.Cells.{alone}
use Rattle.program_cells.specs.Kept.{is_placed_in}
use Rattle.program_cells.specs.Places.{places_from}
use Rattle.program_cells.proofs.PlaceLemmas.{picked}
use Rattle.program_cells.proofs.placed.events_of_several.Goals as goal

pub returns-in-Some : goal.returns-in-Some
returns-in-Some c =
    let events = map (λ event. event.now) c.args.events.now in
    let own : c.in-Some.own.items ≡ places_from 0 (is_placed_in c.parts.result.now) (map (λ event. event.now) c.args.events.now) =
    subst (λ all. IfSome all (λ own. own.items ≡ places_from 0 (is_placed_in c.parts.result.now) (map (λ event. event.now) c.args.events.now)))
    c.in-Some.is (c.in_ok-own.ensures events c.requires) in
    let is : c.deref.result.now ≡ places_from 0 (is_placed_in c.args.ranges.now) (map (λ event. event.now) c.args.events.now) =
    c.deref.ensures.value ∙ own ∙ ap (λ parts. places_from 0 (is_placed_in parts) events) c.parts.ensures.parts in
    subst (λ found. IfOk c.events_at.result (λ kept. map (λ subject. subject.now) kept.items ≡ map alone found))
    (ap (filter_map (slice_get events)) is ∙ picked (is_placed_in c.args.ranges.now) events) c.events_at.ensures
