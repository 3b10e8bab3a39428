use Rattle.std.proofs.Common.{◌≡◌, take, slice_get}
use Rattle.std.specs.List.{filter_map}
use Rattle.program_cells.proofs.placed.items_at.Given as goal

abbrev pub invariant-loop-place : goal.invariant-loop-place
invariant-loop-place g l = l.kept.items ≡ filter_map (slice_get l.items) (take l.place-index l.places)
