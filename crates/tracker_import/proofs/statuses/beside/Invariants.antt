use Rattle.std.proofs.Common.{◌≡◌, drop, map}
use Rattle.tracker_import.specs.Rules.{beside}
use Rattle.tracker_import.proofs.statuses.beside.Given as goal

abbrev pub invariant-loop-entry : goal.invariant-loop-entry
invariant-loop-entry l =
    beside (map (λ entry. (entry.0.now, entry.1)) (drop l.entry-index l.table)) l.text ≡ beside (map (λ entry. (entry.0.now, entry.1)) l.table) l.text
