use Rattle.std.proofs.Common.{◌≡◌, ◌++◌, List}
use Rattle.std.specs.Vec.Iter.{into_iter_items}
use Rattle.table_sums.specs.YearParts.{cut_by}
use Rattle.table_sums.proofs.by_year.lists_by_year.Given as goal

abbrev pub invariant-loop-member : goal.invariant-loop-member
invariant-loop-member g l =
    (before : List _) × (l.fn.list.items ≡ before ++ into_iter_items l.member-iterator) × (l.lists.items ≡ cut_by g.T.Dated.is_in l.years before)
