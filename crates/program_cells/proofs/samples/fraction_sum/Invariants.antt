use Rattle.std.proofs.Common.{◌≡◌, drop}
use Rattle.program_cells.specs.Value.{sum_from, sum_of}
use Rattle.program_cells.proofs.samples.fraction_sum.Given as goal

abbrev pub invariant-loop-sample : goal.invariant-loop-sample
invariant-loop-sample l = sum_of l.samples ≡ sum_from l.sum (drop l.sample-index l.samples)
