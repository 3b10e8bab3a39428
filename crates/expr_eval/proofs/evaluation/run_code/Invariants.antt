use Rattle.std.proofs.Common.{◌≡◌, ◌-◌, ◌≤◌, [], length, drop}
use Rattle.expr_eval.specs.Code.{run}
use Rattle.expr_eval.proofs.evaluation.run_code.Given as goal

abbrev pub invariant-loop-at : goal.invariant-loop-at
invariant-loop-at l = (run l.entries (drop l.at l.code) 0 l.stack ≡ run l.entries l.code 0 []) × (l.at ≤ length l.code)

abbrev pub decreases-loop-at : goal.decreases-loop-at
decreases-loop-at l = length l.code - l.at
