use Rattle.std.proofs.Common.{◌≡◌, ◌++◌, length}
use Rattle.meta_rules.proofs.waiting.waiting.Given as goal

abbrev pub invariant-loop-item : goal.invariant-loop-item
invariant-loop-item g l = l.fn.items.items ≡ l.rest.items ++ l.stack

abbrev pub decreases-loop-item : goal.decreases-loop-item
decreases-loop-item g l = length l.rest.items
