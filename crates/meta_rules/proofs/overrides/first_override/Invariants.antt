use Rattle.std.proofs.Common.{◌≡◌, None}
use Rattle.org_tree.specs.Count.{first_below}
use Rattle.meta_rules.specs.Overrides.{set_overrides}
use Rattle.meta_rules.proofs.overrides.first_override.Given as goal

abbrev pub invariant-loop-place : goal.invariant-loop-place
invariant-loop-place l = first_below (set_overrides l.elements l.raw l.sets) l.place ≡ None
