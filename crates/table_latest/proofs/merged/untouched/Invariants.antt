use Rattle.std.proofs.Common.{◌≡◌, ◌++◌}
use Rattle.std.specs.Vec.Iter.{into_iter_items}
use Rattle.table_latest.specs.Latest.{untouched}
use Rattle.table_latest.proofs.merged.untouched.Given as goal

abbrev pub invariant-loop-item : goal.invariant-loop-item
invariant-loop-item g l =
    untouched (g.T.Keyed.touched l.latest.touched) l.fn.all.items
    ≡ l.kept.items ++ untouched (g.T.Keyed.touched l.latest.touched) (into_iter_items l.item-iterator)
