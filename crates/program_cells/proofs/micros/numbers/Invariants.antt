use Rattle.std.proofs.Common.{◌≡◌, map, take}
use Rattle.dh_base.specs.Fractions.{of_micros}
use Rattle.program_cells.proofs.micros.numbers.Given as goal

abbrev pub invariant-loop-each : goal.invariant-loop-each
invariant-loop-each l = l.found.items ≡ map (λ each. of_micros each) (take l.each-index l.list)
