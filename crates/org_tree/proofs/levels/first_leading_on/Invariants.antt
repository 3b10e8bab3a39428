use Rattle.std.proofs.Common.{◌≡◌, None}
use Rattle.org_tree.specs.Count.{first_below}
use Rattle.org_tree.specs.Levels.{leads_on}
use Rattle.org_tree.proofs.levels.first_leading_on.Given as goal

abbrev pub invariant-loop-from : goal.invariant-loop-from
invariant-loop-from l = first_below (leads_on l.jumps) l.from ≡ None
