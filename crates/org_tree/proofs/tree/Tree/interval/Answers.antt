use Rattle.std.proofs.Common.{◌≡◌, ◌<◌, ◌+◌, List, length, sym, subst, arith}
use Rattle.org_tree.specs.Held.{units_of}
use Rattle.org_tree.specs.Units.{UnitRow, order_of, size_of}
use Rattle.org_tree.proofs.HeldLemmas.{order_read, size_read}
use Rattle.org_tree.specs.Laws.{HasInterval}
use Rattle.org_tree.proofs.LawLemmas.{has_interval}
use Rattle.org_tree.proofs.OrderLemmas.{order-end}
use Rattle.org_tree.proofs.tree.Tree.interval.Goals as goal

pub overflow_add-result : goal.overflow_add-result
overflow_add-result c =
    let us = units_of c.self.inside in
    let held = c.self.invariant in
    let h : c.args.unit < length us = subst (λ (v : List UnitRow). c.args.unit < length v) (sym c.self.view_is) c.requires in
    let order : c.index-order.result.now ≡ order_of us c.args.unit =
    order_read us c.self.inside.orders.items c.args.unit c.index-order.result.now held.orders h c.index-order.ensures in
    let size : c.index.result.now ≡ size_of us c.args.unit =
    size_read us c.self.inside.sizes.items c.args.unit c.index.result.now held.sizes h c.index.ensures in
    let end = order-end us held.is_tree c.args.unit h in
    let few = held.is_tree.few in
    omega arith

pub returns-clause-members : goal.returns-clause-members
returns-clause-members c =
    let us = units_of c.self.inside in
    let held = c.self.invariant in
    let h : c.args.unit < length us = subst (λ (v : List UnitRow). c.args.unit < length v) (sym c.self.view_is) c.requires in
    let order : c.index-order.result.now ≡ order_of us c.args.unit =
    order_read us c.self.inside.orders.items c.args.unit c.index-order.result.now held.orders h c.index-order.ensures in
    let size : c.index.result.now ≡ size_of us c.args.unit =
    size_read us c.self.inside.sizes.items c.args.unit c.index.result.now held.sizes h c.index.ensures in
    subst (λ (v : List UnitRow). HasInterval v c.args.unit c.index-order.result.now (c.index-order.result.now + c.index.result.now)) c.self.view_is
    (has_interval us held.is_tree c.args.unit c.index-order.result.now (c.index-order.result.now + c.index.result.now) h order (omega arith))
