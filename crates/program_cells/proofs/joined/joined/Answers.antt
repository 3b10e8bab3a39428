use Rattle.std.proofs.Common.{◌∙◌, ℕ, get_or, ap}
use Rattle.std.proofs.lemmas.List.{get_or_default, take_all}
use Rattle.program_cells.specs.Kept.{is_placed_in}
use Rattle.program_cells.specs.Places.{order_of, passes_at}
use Rattle.program_cells.proofs.JoinLemmas.{ranges-start, ranges-more}
use Rattle.program_cells.proofs.joined.joined.Goals as goal

pub loop-part-init : goal.loop-part-init
loop-part-init c = λ events are place. ranges-start order_of events c.new-found.result.items place c.new-found.ensures.items

pub loop-part-preserved : goal.loop-part-preserved
loop-part-preserved c = λ events are.
    let parts = c.args.parts.now in
    let at = c.loop-part.part-index in
    let part : ℕ × ℕ = get_or parts at (0, 0) in
    ranges-more order_of events parts at part c.loop-part.found.items c.add_units.new.found.items c.loop-part-test.true
    (get_or_default parts at (0, 0) part c.loop-part-test.true) (c.loop-part.invariant events are) (c.in_ok-add_units.ensures events are)

pub returns : goal.returns
returns c = λ events are place.
    c.loop-part.invariant events are place
    ∙ ap (λ parts. passes_at (is_placed_in parts) events place) (take_all c.loop-part.part-index c.args.parts.now c.loop-part-test.false)
