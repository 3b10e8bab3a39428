use Rattle.std.proofs.Common.{◌≡◌, drop, map}
use Rattle.dh_metadata.specs.Names.{named}
use Rattle.dh_metadata.proofs.names.named.Given as goal

abbrev pub invariant-loop-entry : goal.invariant-loop-entry
invariant-loop-entry g l =
    named (map (λ entry. (entry.0.now, entry.1)) (drop l.entry-index l.table)) l.name ≡ named (map (λ entry. (entry.0.now, entry.1)) l.table) l.name
