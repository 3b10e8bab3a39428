-- Faults of bodies and queries as refusals of requests.
use Rattle.std.specs.Prelude.{Result, Ok, Err}
use Rattle.dh_base.specs.declared.codes.Code.TheVariants as code
use Rattle.dh_base.specs.declared.codes.Refusal.{Refusal}
use Rattle.json_read.specs.Forms.{Formed}
use Rattle.dh_changes.specs.declared.outcome.BodyFault.{BodyFault}
use Rattle.dh_changes.specs.declared.outcome.BodyFault.TheVariants as body
use Rattle.query_lang.specs.declared.plain.QueryFault.{QueryFault}
use Rattle.query_lang.specs.declared.plain.QueryFault.TheVariants as query
use Rattle.query_lang.specs.Given.{refusal}
use Rattle.web_routes.specs.declared.fault.RouteFault.{RouteFault}
use Rattle.web_routes.specs.declared.fault.RouteFault.TheVariants as fault

-- what a body means, or F20 with the path of its first fault
abbrev pub or_body : {A : Type 0} → Formed A → Result A Refusal
or_body (Ok value) = Ok value
or_body (Err path) = Err (refusal code.F20 path)

abbrev pub of_body : BodyFault → RouteFault
of_body (body.Bad path) = fault.Refused (refusal code.F20 path)
of_body body.Memory = fault.Memory

abbrev pub of_query : QueryFault → RouteFault
of_query (query.Refused refused) = fault.Refused refused
of_query query.Memory = fault.Memory
