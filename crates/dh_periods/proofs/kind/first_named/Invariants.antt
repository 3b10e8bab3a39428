use Rattle.std.proofs.Common.{◌≡◌, bytes_eq, drop}
use Rattle.std.specs.Prelude.{find}
use Rattle.dh_periods.specs.Types.{type_name}
use Rattle.dh_periods.proofs.kind.first_named.Given as goal

abbrev pub invariant-loop-kind : goal.invariant-loop-kind
invariant-loop-kind l =
    find (λ kind. bytes_eq (type_name kind) l.name) (drop l.kind-index l.types) ≡ find (λ kind. bytes_eq (type_name kind) l.name) l.types
