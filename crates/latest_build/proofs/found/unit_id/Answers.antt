use Rattle.std.proofs.Common.{◌≡◌, ◌∙◌, ◌<◌, ap, arith, length, subst, sym}
use Rattle.org_tree.specs.Units.{IsTree, order_of}
use Rattle.latest_build.proofs.FoundLemmas.{unit-nowhere, unit-there}
use Rattle.latest_build.proofs.found.unit_id.Goals as goal

pub returns-then-order-count : goal.returns-then-order-count
returns-then-order-count c =
    let n = c.unit_at-unit.result in
    unit-there c.args.meta.now (subst IsTree c.tree-tree.ensures c.count.ensures.tree) n c.args.order c.unit.result.now
    (subst (λ us. n < length us) c.tree-tree.ensures c.unit_at-unit.ensures.in_range)
    (subst (λ us. order_of us n ≡ c.args.order) c.tree-tree.ensures c.unit_at-unit.ensures.unit) c.unit.ensures.value

pub returns-else-order-count : goal.returns-else-order-count
returns-else-order-count c =
    unit-nowhere c.args.meta.now (subst IsTree c.tree-tree.ensures c.count.ensures.tree) c.args.order
    (λ within.
    let below = subst (λ n. c.args.order < n) (sym (c.count.ensures.count ∙ ap length c.tree-tree.ensures)) within in
    let over = c.if-order-count.false in
    omega (arith, below, over))
