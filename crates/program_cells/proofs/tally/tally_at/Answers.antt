use Rattle.std.proofs.Common.{◌≡◌, ◌+◌, ℕ, pos, drop, get_or}
use Rattle.std.proofs.lemmas.List.{get_or_default}
use Rattle.std.specs.Prelude.{option_map}
use Rattle.std.specs.Option.{option_to_list}
use Rattle.program_cells.specs.Tally.{taken_at, summed, numbered}
use Rattle.program_cells.proofs.TallyLemmas.{summed_end, numbered_end, left_at}
use Rattle.program_cells.proofs.tally.tally_at.Goals as goal

pub returns-clause-sum : goal.returns-clause-sum
returns-clause-sum c =
    summed_end (option_map option_to_list) c.args.samples.now c.args.places.now c.loop-place.place-index 1 c.loop-place.tally.sum.number
    (summed 1 (pos 0) (taken_at (option_map option_to_list) c.args.samples.now c.args.places.now)) c.loop-place-test.false c.loop-place.invariant.0

pub returns-clause-count : goal.returns-clause-count
returns-clause-count c =
    numbered_end (option_map option_to_list) c.args.samples.now c.args.places.now c.loop-place.place-index c.loop-place.tally.count
    (numbered 0 (taken_at (option_map option_to_list) c.args.samples.now c.args.places.now)) c.loop-place-test.false c.loop-place.invariant.1.0

pub loop-place-preserved : goal.loop-place-preserved
loop-place-preserved c =
    let samples = c.args.samples.now in
    let places = c.args.places.now in
    let i = c.loop-place.place-index in
    let place : ℕ = get_or places i 0 in
    let at : place ≡ get_or places i place = get_or_default places i 0 place c.loop-place-test.true in
    let told = taken_at (option_map option_to_list) samples in (
      left_at (λ ps. summed 1 c.loop-place.tally.sum.number (told ps)) (λ ps. summed 1 c.in-Some.next.sum.number (told ps)) places i place
          (summed 1 (pos 0) (told places)) c.loop-place-test.true at c.loop-place.invariant.0 (c.in-Some.ensures.sum (drop (i + 1) places)),
      (
        left_at (λ ps. numbered c.loop-place.tally.count (told ps)) (λ ps. numbered c.in-Some.next.count (told ps)) places i place
            (numbered 0 (told places)) c.loop-place-test.true at c.loop-place.invariant.1.0 (c.in-Some.ensures.count (drop (i + 1) places)),
        c.in-Some.ensures.fits,
      ),
    )
