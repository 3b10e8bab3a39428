use Rattle.std.proofs.Common.{◌≡◌, ℕ, List, take}
use Rattle.dh_metadata.specs.Members.{has}
use Rattle.table_rows.specs.declared.event.EventRow.{EventRow}
use Rattle.program_cells.specs.Kept.{is_placed_in}
use Rattle.program_cells.specs.Places.{ArePlaces, order_of, passes_at}
use Rattle.program_cells.proofs.joined.joined.Given as goal

abbrev pub invariant-loop-part : goal.invariant-loop-part
invariant-loop-part l =
    (events : List EventRow) → ArePlaces order_of events l.places → (place : ℕ)
    → has l.found.items place ≡ passes_at (is_placed_in (take l.part-index l.parts)) events place
