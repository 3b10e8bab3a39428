use Rattle.std.proofs.Common.{◌≡◌, length, pos, refl, rules, arith}
use Rattle.program_cells.specs.Tally.{micro_sample, taken_at, summed, numbered}
use Rattle.program_cells.proofs.MicroLemmas.{numbered-all, summed_zero}
use Rattle.program_cells.proofs.TallyLemmas.{summed_end}
use Rattle.program_cells.proofs.micros.sum_at.Goals as goal

pub returns-clause-sum : goal.returns-clause-sum
returns-clause-sum c =
    summed_end micro_sample c.args.list.now c.args.places.now c.loop-place.place-index 1000000 c.loop-place.sum.number
    (summed 1 (pos 0) (taken_at micro_sample c.args.list.now c.args.places.now)) c.loop-place-test.false c.loop-place.invariant.0

pub returns-clause-count : goal.returns-clause-count
returns-clause-count c =
    let many : c.loop-place.place-index ≡ length c.args.places.now = search rules in
    numbered-all c.args.list.now c.args.places.now c.loop-place.place-index (numbered 0 (taken_at micro_sample c.args.list.now c.args.places.now))
    many c.loop-place.invariant.1.0

pub loop-place-init : goal.loop-place-init
loop-place-init c = (summed_zero (taken_at micro_sample c.args.list.now c.args.places.now), (refl, omega arith))
