use Rattle.std.proofs.Common.{◌≡◌}
use Rattle.cell_values.specs.Reporting.{is_assigned_at}
use Rattle.cell_values.proofs.AssignedLemmas.{passing}
use Rattle.cell_values.proofs.assigned.assigned.Given as goal

abbrev pub invariant-loop-order : goal.invariant-loop-order
invariant-loop-order l = l.orders.items ≡ passing (is_assigned_at l.meta l.set) l.order
