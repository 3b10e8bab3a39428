use Rattle.std.proofs.Common.{◌≡◌, rules, subst}
use Rattle.std.specs.Prelude.{IfSome}
use Rattle.program_cells.specs.Kept.{is_placed_in}
use Rattle.program_cells.specs.Places.{ArePlaces, order_of, places_from}
use Rattle.program_cells.proofs.placed.PlacedEvents.own_places.Goals as goal

pub returns : goal.returns
returns c =
    let known : ArePlaces order_of c.args.self.now c.deref.result.now = search rules in
    subst (λ parts. IfSome c.own_places.result (λ own. own.now ≡ places_from 0 (is_placed_in parts) c.args.self.now)) c.parts.ensures.parts
    (c.own_places.ensures.places c.args.self.now known)
