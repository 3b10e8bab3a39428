use Rattle.std.proofs.Common.{◌≡◌, ◌+◌, ◌<◌, get_or, length, arith}
use Rattle.org_tree.specs.Units.{order_of}
use Rattle.org_tree.proofs.OrderLemmas.{order-lt}
use Rattle.org_tree.proofs.WalkLemmas.{order_after_sibling, order_after_parent}
use Rattle.org_tree.proofs.walk.order_of_child.Goals as goal

pub returns-in-Some : goal.returns-in-Some
returns-in-Some c =
    let found = c.in-Some.ensures.found in
    order_after_sibling c.args.units.now c.args.kin.now c.args.orders.now c.args.sizes.now c.args.i c.args.above c.in-Some.sibling
    c.requires.tree c.requires.kin c.requires.sizes c.requires.orders c.requires.in_range c.requires.above found.0 found.1 found.2

pub returns-in-None : goal.returns-in-None
returns-in-None c =
    order_after_parent c.args.units.now c.args.kin.now c.args.orders.now c.args.i c.args.above
    c.requires.tree c.requires.kin c.requires.orders c.requires.in_range c.requires.above c.in-None.ensures.none

pub overflow_add-result : goal.overflow_add-result
overflow_add-result c =
    let us = c.args.units.now in
    let found = c.in-Some.ensures.found in
    let value : get_or c.args.orders.now c.in-Some.sibling 0 + get_or c.args.sizes.now c.in-Some.sibling 0 ≡ order_of us (get_or c.args.kin.now c.args.i 0) =
    order_after_sibling us c.args.kin.now c.args.orders.now c.args.sizes.now c.args.i c.args.above c.in-Some.sibling
    c.requires.tree c.requires.kin c.requires.sizes c.requires.orders c.requires.in_range c.requires.above found.0 found.1 found.2 in
    let small : order_of us (get_or c.args.kin.now c.args.i 0) < length us =
    order-lt us c.requires.tree (get_or c.args.kin.now c.args.i 0) (c.requires.kin.in_range c.args.i c.requires.in_range) in
    let few = c.requires.tree.few in
    omega arith

pub overflow_add-result-in-None : goal.overflow_add-result-in-None
overflow_add-result-in-None c =
    let us = c.args.units.now in
    let value : get_or c.args.orders.now c.args.above 0 + 1 ≡ order_of us (get_or c.args.kin.now c.args.i 0) =
    order_after_parent us c.args.kin.now c.args.orders.now c.args.i c.args.above
    c.requires.tree c.requires.kin c.requires.orders c.requires.in_range c.requires.above c.in-None.ensures.none in
    let small : order_of us (get_or c.args.kin.now c.args.i 0) < length us =
    order-lt us c.requires.tree (get_or c.args.kin.now c.args.i 0) (c.requires.kin.in_range c.args.i c.requires.in_range) in
    let few = c.requires.tree.few in
    omega arith
