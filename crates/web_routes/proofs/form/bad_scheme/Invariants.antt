use Rattle.std.proofs.Common.{◌≡◌, drop, map}
use Rattle.std.specs.Prelude.{find}
use Rattle.web_routes.specs.Parameters.{is_bad_scheme}
use Rattle.web_routes.proofs.form.bad_scheme.Given as goal

abbrev pub invariant-loop-name : goal.invariant-loop-name
invariant-loop-name l =
    find (is_bad_scheme l.pairs) (map (λ name. name.now) (drop l.name-index l.names)) ≡ find (is_bad_scheme l.pairs) (map (λ name. name.now) l.names)
