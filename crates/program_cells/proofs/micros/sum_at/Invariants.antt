use Rattle.std.proofs.Common.{◌≡◌, ◌<◌, ◌^◌, drop, pos, unsigned_abs}
use Rattle.program_cells.specs.Tally.{micro_sample, taken_at, summed, numbered}
use Rattle.program_cells.proofs.micros.sum_at.Given as goal

abbrev pub invariant-loop-place : goal.invariant-loop-place
invariant-loop-place l =
    (summed 1 (pos 0) (taken_at micro_sample l.list l.places) ≡ summed 1000000 l.sum.number (taken_at micro_sample l.list (drop l.place-index l.places)))
    × ((numbered 0 (taken_at micro_sample l.list l.places) ≡ numbered l.place-index (taken_at micro_sample l.list (drop l.place-index l.places)))
    × (unsigned_abs l.sum.number < 2 ^ 100))
