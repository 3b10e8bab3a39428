use Rattle.std.proofs.Common.{◌≡◌, ◌<◌, ◌^◌, drop, pos, unsigned_abs}
use Rattle.std.specs.Prelude.{option_map}
use Rattle.std.specs.Option.{option_to_list}
use Rattle.program_cells.specs.Tally.{taken_at, summed, numbered}
use Rattle.program_cells.proofs.tally.tally_at.Given as goal

abbrev pub invariant-loop-place : goal.invariant-loop-place
invariant-loop-place l =
    (summed 1 (pos 0) (taken_at (option_map option_to_list) l.samples l.places)
    ≡ summed 1 l.tally.sum.number (taken_at (option_map option_to_list) l.samples (drop l.place-index l.places)))
    × ((numbered 0 (taken_at (option_map option_to_list) l.samples l.places)
    ≡ numbered l.tally.count (taken_at (option_map option_to_list) l.samples (drop l.place-index l.places)))
    × (unsigned_abs l.tally.sum.number < 2 ^ 127))
