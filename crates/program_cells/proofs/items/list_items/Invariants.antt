use Rattle.std.proofs.Common.{◌≡◌, map, take}
use Rattle.program_cells.specs.Items.{item_in}
use Rattle.program_cells.proofs.items.list_items.Given as goal

abbrev pub invariant-loop-each : goal.invariant-loop-each
invariant-loop-each l = l.entries.items ≡ map (item_in l.subject) (take l.each-index l.items)
