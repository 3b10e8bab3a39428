use Rattle.std.proofs.Common.{◌<◌, length, arith}
use Rattle.org_tree.proofs.OrderLemmas.{order-lt}
use Rattle.org_tree.proofs.WalkLemmas.{WalkSoFar-more, IsWalk-from_all}
use Rattle.org_tree.proofs.walk.walk.Goals as goal

pub index_mut-requires : goal.index_mut-requires
index_mut-requires c =
    let us = c.args.units.now in
    let in_range : c.loop-unit.unit < length us = let e = c.requires.orders.same_length in omega arith in
    let value = c.requires.orders.each c.loop-unit.unit in_range in
    let small = order-lt us c.requires.tree c.loop-unit.unit in_range in
    let len = c.loop-unit.invariant.same_length in
    let whole = c.loop-unit.walk.ok in
    omega arith

pub loop-unit-preserved : goal.loop-unit-preserved
loop-unit-preserved c =
    let us = c.args.units.now in
    let in_range : c.loop-unit.unit < length us = let e = c.requires.orders.same_length in omega arith in
    WalkSoFar-more us c.loop-unit.walk.items c.loop-unit.unit _ c.requires.tree in_range (c.requires.orders.each c.loop-unit.unit in_range)
    c.loop-unit.invariant

pub returns : goal.returns
returns c =
    IsWalk-from_all c.args.units.now c.loop-unit.walk.items c.loop-unit.unit c.requires.tree (let e =
    c.requires.orders.same_length in omega arith) c.loop-unit.invariant
