-- What a call says of its request.
use Rattle.std.proofs.Common.{ℕ, ◌<◌, length, subst, sym, arith}
use Rattle.std.specs.Prelude.{Result, Ok, Err, IfOk}
use Rattle.dh_metadata.specs.declared.held.Records.{Records}
use Rattle.query_lang.specs.Askable.{IsAskable}
use Rattle.web_routes.specs.declared.fault.RouteFault.{RouteFault}
use Rattle.web_routes.specs.declared.call.Call.{Call}
use Rattle.web_routes.specs.declared.call.Call.TheVariants as call
use Rattle.web_routes.specs.Calls.{IsBy, IsSound}

-- a call of one of the metadata's users is sound
pub sound_call : (r : Records) (by : ℕ) (result : Result Call RouteFault) → by < length r.users → IfOk result (λ found. IsBy r by found)
    → IfOk result (λ found. IsSound r found)
sound_call r by (Ok (call.Query user asked query)) below found =
    (omega (arith, below, found.0), subst (λ n. IsAskable r n query) (sym found.0) found.1)
sound_call r by (Ok (call.Check user asked checked)) below found = (omega (arith, below, found.0), found.1, found.2)
sound_call r by (Ok (call.Update kind)) below found = found
sound_call r by (Ok (call.Values user set)) below found = omega (arith, below, found)
sound_call r by (Ok (call.Completion user list)) below found = omega (arith, below, found)
sound_call r by (Ok (call.Approval user act)) below found = omega (arith, below, found)
sound_call r by (Ok (call.Tracker user bundle)) below found = omega (arith, below, found)
sound_call r by (Err fault) below found = found
