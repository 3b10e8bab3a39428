use Rattle.std.proofs.Common.{◌≡◌, ◌<◌, ◌^◌, drop, unsigned_abs}
use Rattle.dh_base.specs.Fractions.{fraction_of}
use Rattle.program_cells.specs.Value.{sum_from, sum_of}
use Rattle.program_cells.proofs.samples.whole_sum.Given as goal

abbrev pub invariant-loop-sample : goal.invariant-loop-sample
invariant-loop-sample l =
    (sum_of l.samples ≡ sum_from (fraction_of l.sum.number 1) (drop l.sample-index l.samples)) × (unsigned_abs l.sum.number < 2 ^ 127)
