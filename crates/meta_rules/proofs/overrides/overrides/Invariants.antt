use Rattle.std.proofs.Common.{◌≡◌, None}
use Rattle.org_tree.specs.Count.{first_below}
use Rattle.meta_rules.specs.Overrides.{entry_overrides}
use Rattle.meta_rules.proofs.overrides.overrides.Given as goal

abbrev pub invariant-loop-place : goal.invariant-loop-place
invariant-loop-place l = first_below (entry_overrides l.elements l.numbers l.entries) l.place ≡ None
