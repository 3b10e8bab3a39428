use Rattle.std.proofs.Common.{◌≡◌}
use Rattle.std.specs.Prelude.{take}
use Rattle.std.specs.Vec.Iter.{into_iter_items}
use Rattle.engine.specs.Machine.{number_in}
use Rattle.shared_engine.specs.Builds.{ArePartsOf}
use Rattle.shared_engine.proofs.builds.hand_in_all.Given as goal

abbrev pub invariant-loop-part : goal.invariant-loop-part
invariant-loop-part g l =
    (l.engine ≡ l.fn.engine)
    × ArePartsOf l.fn.engine.meta (take (number_in l.fn.engine.state.full) l.fn.engine.state.log) (into_iter_items l.part-iterator)
