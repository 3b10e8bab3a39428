use Rattle.std.proofs.Common.{◌≡◌, [], take, map}
use Rattle.table_sums.proofs.by_year.empty_lists.Given as goal

abbrev pub invariant-loop-year : goal.invariant-loop-year
invariant-loop-year g l = l.lists.items ≡ map (λ year. []) (take l._year-index l.years)
