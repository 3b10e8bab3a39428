use Rattle.std.proofs.Common.{◌≡◌, drop}
use Rattle.std.specs.List.{find}
use Rattle.value_import.specs.Names.{has_type}
use Rattle.value_import.proofs.names.first_typed.Given as goal

abbrev pub invariant-loop-set : goal.invariant-loop-set
invariant-loop-set l = find (has_type l.meta l.kind) l.sets ≡ find (has_type l.meta l.kind) (drop l.set-index l.sets)
