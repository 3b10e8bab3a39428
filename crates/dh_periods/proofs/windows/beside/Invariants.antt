use Rattle.std.proofs.Common.{◌≡◌, drop, map}
use Rattle.dh_periods.specs.Relative.{beside}
use Rattle.dh_periods.proofs.windows.beside.Given as goal

abbrev pub invariant-loop-entry : goal.invariant-loop-entry
invariant-loop-entry l =
    beside (map (λ entry. (entry.0.now, entry.1)) (drop l.entry-index l.table)) l.name ≡ beside (map (λ entry. (entry.0.now, entry.1)) l.table) l.name
