use Rattle.std.proofs.Common.{◌≡◌, ◌<◌, List, length, sym, ap, ◌∙◌, subst, arith}
use Rattle.org_tree.specs.Held.{units_of}
use Rattle.org_tree.specs.Units.{UnitRow, IsTree, is_under, order_of, size_of}
use Rattle.org_tree.proofs.HeldLemmas.{order_read, size_read, under_inside, under_left}
use Rattle.org_tree.proofs.LawLemmas.{under_rule}
use Rattle.org_tree.proofs.OrderLemmas.{order-end}
use Rattle.org_tree.proofs.tree.Tree.is_under.Goals as goal

pub overflow_add-result : goal.overflow_add-result
overflow_add-result c =
    let us = units_of c.self.inside in
    let held = c.self.invariant in
    let y = c.args.y in
    let h : y < length us = subst (λ (v : List UnitRow). y < length v) (sym c.self.view_is) c.requires.y_in in
    let order : c.index-first.result.now ≡ order_of us y =
    order_read us c.self.inside.orders.items y c.index-first.result.now held.orders h c.index-first.ensures in
    let size : c.index.result.now ≡ size_of us y = size_read us c.self.inside.sizes.items y c.index.result.now held.sizes h c.index.ensures in
    let end = order-end us held.is_tree y h in
    let few = held.is_tree.few in
    omega arith

pub returns-then-first-order-clause-under : goal.returns-then-first-order-clause-under
returns-then-first-order-clause-under c =
    let us = units_of c.self.inside in
    let held = c.self.invariant in
    let x = c.args.x in
    let y = c.args.y in
    let x_in : x < length us = subst (λ (v : List UnitRow). x < length v) (sym c.self.view_is) c.requires.x_in in
    let y_in : y < length us = subst (λ (v : List UnitRow). y < length v) (sym c.self.view_is) c.requires.y_in in
    under_inside us held.is_tree x y c.index-order.result.now c.index-first.result.now c.index.result.now x_in y_in
    (order_read us c.self.inside.orders.items x c.index-order.result.now held.orders x_in c.index-order.ensures)
    (order_read us c.self.inside.orders.items y c.index-first.result.now held.orders y_in c.index-first.ensures)
    (size_read us c.self.inside.sizes.items y c.index.result.now held.sizes y_in c.index.ensures)
    c.if-first-order.true
    ∙ ap (λ (v : List UnitRow). is_under v x y) c.self.view_is

pub returns-then-first-order-clause-rule : goal.returns-then-first-order-clause-rule
returns-then-first-order-clause-rule c =
    returns-then-first-order-clause-under c
    ∙ under_rule c.args.self.now (subst (λ (v : List UnitRow). IsTree v) c.self.view_is c.self.invariant.is_tree) c.args.x c.args.y c.requires.x_in

pub returns-else-first-order-clause-under : goal.returns-else-first-order-clause-under
returns-else-first-order-clause-under c =
    let us = units_of c.self.inside in
    let held = c.self.invariant in
    let x = c.args.x in
    let y = c.args.y in
    let x_in : x < length us = subst (λ (v : List UnitRow). x < length v) (sym c.self.view_is) c.requires.x_in in
    let y_in : y < length us = subst (λ (v : List UnitRow). y < length v) (sym c.self.view_is) c.requires.y_in in
    under_left us held.is_tree x y c.index-order.result.now c.index-first.result.now x_in y_in
    (order_read us c.self.inside.orders.items x c.index-order.result.now held.orders x_in c.index-order.ensures)
    (order_read us c.self.inside.orders.items y c.index-first.result.now held.orders y_in c.index-first.ensures)
    c.if-first-order.false
    ∙ ap (λ (v : List UnitRow). is_under v x y) c.self.view_is

pub returns-else-first-order-clause-rule : goal.returns-else-first-order-clause-rule
returns-else-first-order-clause-rule c =
    returns-else-first-order-clause-under c
    ∙ under_rule c.args.self.now (subst (λ (v : List UnitRow). IsTree v) c.self.view_is c.self.invariant.is_tree) c.args.x c.args.y c.requires.x_in
