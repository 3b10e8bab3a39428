use Rattle.std.proofs.Common.{◌≡◌, None}
use Rattle.org_tree.specs.Count.{first_below}
use Rattle.org_tree.specs.Faults.{has_bad_parent}
use Rattle.org_tree.proofs.checks.first_bad_parent.Given as goal

abbrev pub invariant-loop-i : goal.invariant-loop-i
invariant-loop-i l = first_below (has_bad_parent l.units) l.i ≡ None
