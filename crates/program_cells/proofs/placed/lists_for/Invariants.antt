use Rattle.std.proofs.Common.{[]}
use Rattle.program_cells.specs.Places.{ArePlaces, order_of}
use Rattle.program_cells.proofs.placed.lists_for.Given as goal

abbrev pub invariant-loop-unit : goal.invariant-loop-unit
invariant-loop-unit l = ArePlaces order_of [] l.lists.items
