use Rattle.std.proofs.Common.{◌≡◌, None}
use Rattle.org_tree.specs.Count.{first_below}
use Rattle.meta_rules.specs.Seen.{several_at}
use Rattle.meta_rules.proofs.workflows.first_torn.Given as goal

abbrev pub invariant-loop-place : goal.invariant-loop-place
invariant-loop-place l = first_below (several_at l.seen) l.place ≡ None
