use Rattle.std.proofs.Common.{◌≡◌, None}
use Rattle.org_tree.specs.Count.{first_below}
use Rattle.dh_changes.specs.World.{facts}
use Rattle.dh_approvals.specs.Search.{passes_at}
use Rattle.dh_approvals.specs.Units.{is_sought}
use Rattle.dh_approvals.proofs.search.first_sought.Given as goal

abbrev pub invariant-loop-order : goal.invariant-loop-order
invariant-loop-order l =
    first_below (passes_at l.tree (is_sought (facts l.asking.world.now) l.asking.meta.now l.asking.scope l.asking.workflow l.sought)) l.order ≡ None
