use Rattle.std.proofs.Common.{◌≡◌, map, take}
use Rattle.program_cells.specs.Items.{named_item}
use Rattle.program_cells.proofs.items.named_items.Given as goal

abbrev pub invariant-loop-item : goal.invariant-loop-item
invariant-loop-item l = l.list.items ≡ map (named_item l.meta) (take l.item-index l.items)
