use Rattle.std.proofs.Common.{◌≡◌, ◌≤◌, ◌||◌, ℕ, List}
use Rattle.dh_metadata.specs.Members.{has}
use Rattle.table_rows.specs.declared.event.EventRow.{EventRow}
use Rattle.program_cells.specs.Places.{ArePlaces, order_of, is_between, passes_at}
use Rattle.program_cells.proofs.joined.add_units.Given as goal

abbrev pub invariant-loop-unit : goal.invariant-loop-unit
invariant-loop-unit l =
    (l.from ≤ l.unit) × (l.unit ≤ l.to) × ((events : List EventRow) → ArePlaces order_of events l.places → (place : ℕ)
    → has l.found.items place ≡ (has l.initial.found.items place || passes_at (λ event. is_between l.from l.unit (order_of event)) events place))
