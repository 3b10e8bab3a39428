-- Why a request is refused.
use Rattle.std.specs.Prelude.{Option, Some, None}
use Rattle.dh_base.specs.declared.codes.Refusal.{Refusal}
use Rattle.web_routes.specs.declared.fault.RouteFault.{RouteFault}
use Rattle.web_routes.specs.declared.fault.RouteFault.TheVariants as fault

-- the refusal of a request; running out of memory has none
abbrev pub cause_of : RouteFault → Option Refusal
cause_of (fault.Refused refused) = Some refused
cause_of fault.Memory = None
