use Rattle.std.proofs.Common.{sym}
use Rattle.org_tree.proofs.ClimbLemmas.{climb-gone}
use Rattle.org_tree.proofs.tree.raised.Goals as goal

pub returns-in-None : goal.returns-in-None
returns-in-None c =
    sym (climb-gone c.args.units.now c.loop.counter c.args.steps c.args.unit c.loop.at c.loop.invariant.reached (sym c.in-None.ensures) c.loop-test.true)
