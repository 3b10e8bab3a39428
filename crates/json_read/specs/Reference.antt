-- A reference to another object of a file.
use Rattle.std.specs.Prelude.{codes, Ok}
use Rattle.serde_json.specs.Data.{Data}
use Rattle.json_read.specs.Forms.{Formed, and_then, object_of, field_of, identifier_of}
use Rattle.json_read.specs.declared.reference.Reference.{Reference}

-- an object whose `id` is an identifier
abbrev pub reference_of : Data → Formed Reference
reference_of = object_of (λ json. and_then (field_of (codes "id") identifier_of json) (λ id. Ok (record { id = id })))
