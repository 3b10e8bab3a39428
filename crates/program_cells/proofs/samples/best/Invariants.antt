use Rattle.std.proofs.Common.{◌≡◌, drop, None}
use Rattle.program_cells.specs.Value.{best_from}
use Rattle.program_cells.proofs.samples.best.Given as goal

abbrev pub invariant-loop-sample : goal.invariant-loop-sample
invariant-loop-sample l = best_from l.greatest None l.samples ≡ best_from l.greatest l.best (drop l.sample-index l.samples)
