-- Bodies of requests, which are JSON data of a stated form.
use Rattle.std.specs.Prelude.{ℕ, List, Option, None, Some, Result}
use Rattle.serde_json.specs.Data.{Data}
use Rattle.dh_base.specs.Memory.{Answers}
use Rattle.json_read.specs.Bytes.{document_of}
use Rattle.json_read.specs.Forms.{Formed, and_then, or_fault}
use Rattle.dh_changes.specs.declared.outcome.BodyFault.{BodyFault}
use Rattle.dh_changes.specs.declared.outcome.BodyFault.TheVariants as fault

-- what a body stands for; the path of a body that isn't JSON is empty
abbrev pub body_of : {A : Type 0} → (Data → Formed A) → List ℕ → Formed A
body_of meaning bytes = and_then (or_fault (document_of bytes)) meaning

-- the path of a fault; running out of memory has none
abbrev pub path_of : BodyFault → Option (List ℕ)
path_of (fault.Bad path) = Some path
path_of fault.Memory = None

-- the value that is meant, or the path of the first fault, or that memory ran out
abbrev pub Gives : {A : Type 0} → Formed A → Result A BodyFault → Type 0
Gives meant result = Answers path_of meant result
