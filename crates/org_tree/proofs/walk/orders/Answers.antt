use Rattle.org_tree.proofs.WalkLemmas.{AreOrders-from_all}
use Rattle.std.proofs.Common.{arith}
use Rattle.org_tree.proofs.walk.orders.Goals as goal

pub returns : goal.returns
returns c =
    AreOrders-from_all c.args.units.now c.args.kin.now c.loop-i.orders.items c.loop-i.i c.requires.kin (let e =
    c.requires.kin.same_length in omega arith) c.loop-i.invariant
