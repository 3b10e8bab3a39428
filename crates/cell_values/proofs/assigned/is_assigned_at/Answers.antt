use Rattle.std.proofs.Common.{◌∙◌, arith}
use Rattle.cell_values.proofs.AssignedLemmas.{assigned-there, assigned-past}
use Rattle.cell_values.proofs.assigned.is_assigned_at.Goals as goal

pub returns-then-count-order : goal.returns-then-count-order
returns-then-count-order c =
    assigned-past c.args.meta.now c.args.set c.args.order c.tree-tree.result.now c.tree-tree.ensures c.count.ensures.tree
    (omega (arith, c.if-count-order.true, c.count.ensures.count))

pub returns : goal.returns
returns c =
    c.is_assigned.ensures
    ∙ assigned-there c.args.meta.now c.args.set c.unit_at.result c.args.order c.tree-tree.result.now c.tree-tree.ensures c.count.ensures.tree
    c.unit_at.ensures.in_range c.unit_at.ensures.unit
