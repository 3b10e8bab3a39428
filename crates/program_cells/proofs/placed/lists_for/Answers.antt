use Rattle.std.proofs.Common.{◌∙◌}
use Rattle.program_cells.specs.Places.{order_of}
use Rattle.program_cells.proofs.PlaceLemmas.{none-yet, empty-more}
use Rattle.program_cells.proofs.placed.lists_for.Goals as goal

pub loop-unit-init : goal.loop-unit-init
loop-unit-init c = none-yet order_of c.new-lists.result.items c.new-lists.ensures.items

pub loop-unit-preserved : goal.loop-unit-preserved
loop-unit-preserved c =
    empty-more order_of c.loop-unit.lists.items c.push.new.self.items c.from.result (c.from.ensures ∙ c.in_ok-list.ensures.items)
    c.in_ok-push.ensures.items c.loop-unit.invariant
