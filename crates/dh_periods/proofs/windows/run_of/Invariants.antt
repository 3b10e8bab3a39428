use Rattle.std.proofs.Common.{◌≡◌, ◌-◌}
use Rattle.dh_periods.specs.Relative.{run_of}
use Rattle.dh_periods.proofs.windows.run_of.Given as goal

abbrev pub invariant-loop-place : goal.invariant-loop-place
invariant-loop-place l = l.periods.items ≡ run_of l.kind l.start (l.place - l.start)
