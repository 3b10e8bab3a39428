use Rattle.std.proofs.Common.{◌≡◌, ◌≤◌, length, take, reverse}
use Rattle.expr_eval.specs.Meaning.{best_of}
use Rattle.expr_eval.proofs.Running.{best_on}
use Rattle.expr_eval.proofs.evaluation.best.Given as goal

abbrev pub invariant-loop-above : goal.invariant-loop-above
invariant-loop-above l =
    (best_on l.greatest l.best (reverse (take l.above l.stack)) ≡ best_of l.greatest (reverse (take l.count l.stack))) × (l.above ≤ length l.stack)

abbrev pub decreases-loop-above : goal.decreases-loop-above
decreases-loop-above l = l.above
