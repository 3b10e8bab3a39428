use Rattle.std.proofs.Common.{◌≡◌, ◌==◌, ℕ, None, take}
use Rattle.std.specs.List.{find}
use Rattle.table_rows.specs.declared.event.ItemValue.{ItemValue}
use Rattle.program_cells.proofs.items.entry_of.Given as goal

abbrev pub invariant-loop-entry : goal.invariant-loop-entry
invariant-loop-entry l = find (λ (entry : ℕ × ItemValue). entry.0 == l.n) (take l.entry-index l.entries) ≡ None
