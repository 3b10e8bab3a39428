-- What the head of a request says.
use Rattle.std.specs.Prelude.{◌≡◌, ℕ, Bool, true, false, List, [], map, Option, None, Some, Result, Ok, Err, ⊤, codes, nat_lt}
use Rattle.httparse.specs.Grammar.{RequestHead, ReadsRequest}
use Rattle.httparse.specs.Spans.{name_and_value}
use Rattle.dh_base.specs.declared.codes.Code.{Code}
use Rattle.dh_base.specs.declared.codes.Code.TheVariants.{F1, F2}
use Rattle.http_wire.specs.Fields.{Field, last_named, path_of, query_of, is_kept, token_of}
use Rattle.http_wire.specs.Lines.{field_lines}
use Rattle.http_wire.specs.Plan.{plan_of}
use Rattle.http_wire.specs.declared.plan.Plan.{Plan}
use Rattle.http_wire.specs.declared.head.Head.{Head}
use Rattle.http_wire.specs.declared.head.HeadFault.{HeadFault}
use Rattle.http_wire.specs.declared.head.HeadFault.TheVariants.{Refused, Memory}

-- the parts of a request head, the values without white space around them
pub record Parts : Type 0 where
  pub method : List ℕ
  pub target : List ℕ
  pub minor : ℕ
  pub fields : List Field

abbrev pub parts_of : RequestHead → Parts
parts_of head = record { method = head.method; target = head.target; minor = head.minor; fields = map name_and_value head.fields }

-- the bytes are, as a whole, a request head of these parts, or none
abbrev pub IsRead : List ℕ → Option Parts → Type 0
IsRead bytes None = (head : RequestHead) → ¬ (ReadsRequest bytes head [])
IsRead bytes (Some parts) = (head : RequestHead) × ReadsRequest bytes head [] × (parts ≡ parts_of head)

-- what the parts say, beside the plan of the body
abbrev pub head_with : Parts → Plan → Head
head_with parts plan = record {
  method = parts.method;
  path = path_of parts.target;
  query = query_of parts.target;
  token = token_of parts.fields;
  asked = last_named (codes "x-min-change") parts.fields;
  keep = is_kept parts.minor parts.fields;
  plan = plan;
}

abbrev pub planned : Parts → Result Plan Code → Result Head Code
planned parts (Ok plan) = Ok (head_with parts plan)
planned parts (Err code) = Err code

-- what a head says, or the fault of one
unfoldable pub said_by : Parts → Result Head Code
said_by parts = planned parts (plan_of parts.fields)

abbrev pub meant_by : Option Parts → Result Head Code
meant_by None = Err F1
meant_by (Some parts) = said_by parts

-- a head of too many lines is refused as it is; any other is read
abbrev pub IsMeantBy : Bool → List ℕ → Result Head Code → Type 0
IsMeantBy true bytes meant = meant ≡ Err F2
IsMeantBy false bytes meant = (parts : Option Parts) × IsRead bytes parts × (meant ≡ meant_by parts)

-- the bytes of a head say this
abbrev pub Says : List ℕ → Result Head Code → Type 0
Says bytes meant = IsMeantBy (nat_lt 64 (field_lines bytes)) bytes meant

-- why a head is refused; running out of memory has no cause
abbrev pub cause_of : HeadFault → Option Code
cause_of (Refused code) = Some code
cause_of Memory = None

-- so much holds of what the answer says, unless memory ran out
abbrev pub Tells : (Result Head Code → Type 0) → Result Head HeadFault → Type 0
Tells Meant (Ok head) = Meant (Ok head)
Tells Meant (Err (Refused code)) = Meant (Err code)
Tells Meant (Err Memory) = ⊤
