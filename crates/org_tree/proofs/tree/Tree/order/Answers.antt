use Rattle.std.proofs.Common.{◌≡◌, ◌<◌, ℕ, List, length, sym, subst}
use Rattle.org_tree.specs.Held.{units_of}
use Rattle.org_tree.specs.Units.{UnitRow, IsTree, order_of}
use Rattle.org_tree.proofs.HeldLemmas.{order_read}
use Rattle.org_tree.proofs.LawLemmas.{behind_parent, behind_elders}
use Rattle.org_tree.proofs.OrderLemmas.{order-lt}
use Rattle.org_tree.proofs.tree.Tree.order.Goals as goal

pub returns-clause-in_range : goal.returns-clause-in_range
returns-clause-in_range c =
    let us = units_of c.self.inside in
    let held = c.self.invariant in
    let h : c.args.unit < length us = subst (λ (v : List UnitRow). c.args.unit < length v) (sym c.self.view_is) c.requires in
    let order : c.index.result.now ≡ order_of us c.args.unit =
    order_read us c.self.inside.orders.items c.args.unit c.index.result.now held.orders h c.index.ensures in
    subst (λ (v : List UnitRow). c.index.result.now < length v) c.self.view_is
    (subst (λ (v : ℕ). v < length us) (sym order) (order-lt us held.is_tree c.args.unit h))

pub returns-clause-behind_parent : goal.returns-clause-behind_parent
returns-clause-behind_parent c =
    behind_parent c.args.self.now (subst (λ (v : List UnitRow). IsTree v) c.self.view_is c.self.invariant.is_tree) c.args.unit c.requires

pub returns-clause-behind_elders : goal.returns-clause-behind_elders
returns-clause-behind_elders c =
    behind_elders c.args.self.now (subst (λ (v : List UnitRow). IsTree v) c.self.view_is c.self.invariant.is_tree) c.args.unit c.requires
