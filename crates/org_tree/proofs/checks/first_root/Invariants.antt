use Rattle.std.proofs.Common.{◌≡◌, None}
use Rattle.org_tree.specs.Count.{first_below}
use Rattle.org_tree.specs.Faults.{is_root}
use Rattle.org_tree.proofs.checks.first_root.Given as goal

abbrev pub invariant-loop-i : goal.invariant-loop-i
invariant-loop-i l = first_below (is_root l.units) l.i ≡ None
