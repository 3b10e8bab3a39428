use Rattle.std.proofs.Common.{◌≡◌, ◌&&◌, None}
use Rattle.org_tree.specs.Count.{first_below}
use Rattle.dh_metadata.specs.Sets.{is_assigned}
use Rattle.dh_approvals.specs.Units.{uses}
use Rattle.dh_approvals.proofs.search.is_assigned_in.Given as goal

abbrev pub invariant-loop-set : goal.invariant-loop-set
invariant-loop-set l = first_below (λ set. uses l.meta l.workflow set && is_assigned l.meta set l.unit) l.set ≡ None
