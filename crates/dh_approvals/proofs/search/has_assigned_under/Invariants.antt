use Rattle.dh_approvals.specs.Units.{is_assigned_in}
use Rattle.dh_approvals.proofs.SearchLemmas.{NoneWithin}
use Rattle.dh_approvals.proofs.search.has_assigned_under.Given as goal

abbrev pub invariant-loop-order : goal.invariant-loop-order
invariant-loop-order l = NoneWithin l.tree (is_assigned_in l.meta l.workflow) l.first l.order
