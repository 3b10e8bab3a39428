use Rattle.dh_sharing.specs.Ranges.{is_within}
use Rattle.program_cells.specs.Places.{order_of}
use Rattle.std.proofs.Common.{◌∙◌}
use Rattle.program_cells.proofs.PlaceLemmas.{along_own, own, own-places}
use Rattle.program_cells.proofs.placed.own_places.Goals as goal

pub returns-then-unit-places-clause-members : goal.returns-then-unit-places-clause-members
returns-then-unit-places-clause-members c = λ events known.
    along_own events (λ event. is_within c.args.parts.now (order_of event)) c.as_slice.result.now c.index-places-unit.result c.as_slice.ensures
    (own order_of (is_within c.args.parts.now) events c.args.places.now c.in_ok-unit.field-0 c.index-places-unit.result known c.if-unit-places.true
    c.index-places-unit.is c.in_ok-unit.ensures)

pub returns-then-unit-places-clause-places : goal.returns-then-unit-places-clause-places
returns-then-unit-places-clause-places c = λ events known.
    c.as_slice.ensures
    ∙ own-places order_of (is_within c.args.parts.now) events c.args.places.now c.in_ok-unit.field-0 c.index-places-unit.result known c.if-unit-places.true
    c.index-places-unit.is c.in_ok-unit.ensures
