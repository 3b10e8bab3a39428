-- The refusals of a query.
use Rattle.std.specs.Prelude.{ℕ, List, Result, Ok, Err, Option, Some, None}
use Rattle.dh_base.specs.declared.codes.Code.{Code}
use Rattle.dh_base.specs.declared.codes.Refusal.{Refusal}
use Rattle.query_lang.specs.declared.plain.QueryFault.{QueryFault}
use Rattle.query_lang.specs.declared.plain.QueryFault.TheVariants as fault

-- go on with the value, or keep the refusal
abbrev pub and_then : {A B : Type 0} → Result A Refusal → (A → Result B Refusal) → Result B Refusal
and_then (Ok value) next = next value
and_then (Err refusal) next = Err refusal

abbrev pub refusal : Code → List ℕ → Refusal
refusal code detail = record { code = code; detail = detail }

-- a value, or a refusal with this code and detail
abbrev pub or_refuse : {A : Type 0} → Code → List ℕ → Option A → Result A Refusal
or_refuse code detail (Some value) = Ok value
or_refuse code detail None = Err (refusal code detail)

-- why a query is refused; running out of memory has no cause
abbrev pub cause_of : QueryFault → Option Refusal
cause_of (fault.Refused refused) = Some refused
cause_of fault.Memory = None

-- what a call that changes a value in place leaves in it
abbrev pub left_in : {A X E : Type 0} → A → Result X E → Result A E
left_in new (Ok _) = Ok new
left_in new (Err fault) = Err fault
