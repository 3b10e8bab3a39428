use Rattle.std.proofs.Common.{sym}
use Rattle.std.specs.Prelude.{slice_index}
use Rattle.org_tree.proofs.OrderLemmas.{order-root}
use Rattle.org_tree.proofs.walk.order_at.Goals as goal

pub returns-in-None : goal.returns-in-None
returns-in-None c =
    sym (order-root c.args.units.now c.requires.tree (slice_index c.args.kin.now c.args.i) (c.requires.kin.in_range c.args.i c.requires.in_range)
    (sym c.in-None.ensures))
