use Rattle.std.proofs.Common.{◌≡◌, ◌∙◌, IfSome, ap, rules, subst}
use Rattle.program_cells.specs.Kept.{is_placed_in}
use Rattle.program_cells.specs.Places.{ArePlaces, order_of, places_from}
use Rattle.program_cells.proofs.placed.PlacedEvents.places_within.Goals as goal

pub returns-in-Some : goal.returns-in-Some
returns-in-Some c =
    let events = c.args.self.now in
    let known : ArePlaces order_of c.args.self.now c.deref.result.now = search rules in
    let own : c.in-Some.own.items ≡ places_from 0 (is_placed_in c.parts.result.now) c.args.self.now =
    subst (λ all. IfSome all (λ own. own.items ≡ places_from 0 (is_placed_in c.parts.result.now) c.args.self.now)) c.in-Some.is
    (c.in_ok-own.ensures events known) in
    own ∙ ap (λ parts. places_from 0 (is_placed_in parts) events) c.parts.ensures.parts
