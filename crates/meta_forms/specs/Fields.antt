-- The fields of the objects of a metadata file.
use Rattle.std.specs.Prelude.{ℕ, ℤ, List, Option, Some, None, option_map, option_and_then, cond, ◌&&◌, codes, map, int_le, Ok}
use Rattle.std.specs.Option.{unwrap_or}
use Rattle.serde_json.specs.Data.{Data}
use Rattle.serde_json.specs.Find.{as_str, as_number, as_i64}
use Rattle.json_read.specs.Forms.{Formed, and_then, or_fault, text_of, field_of, field_or_of, optional_of, listed_of}
use Rattle.json_read.specs.Reference.{reference_of}

-- the name of an object, by default its identifier
unfoldable pub name_of : List ℕ → Data → Formed (List ℕ)
name_of id = field_or_of (codes "name") text_of id

-- the value whose name the text is
abbrev pub named_in : {A : Type 0} → (List ℕ → Option A) → Data → Option A
named_in meaning json = option_and_then meaning (as_str json)

-- a name of a table
abbrev pub name_of_table : {A : Type 0} → (List ℕ → Option A) → Data → Formed A
name_of_table meaning json = or_fault (named_in meaning json)

-- the value whose name the text is, or what is meant by a text that the table doesn't have
abbrev pub listed_or : {A : Type 0} → (List ℕ → Option A) → A → Data → Option A
listed_or meaning other json = option_map (λ text. unwrap_or (meaning text) other) (as_str json)

-- a text, which means something else where it is no name of the table
abbrev pub name_or_other : {A : Type 0} → (List ℕ → Option A) → A → Data → Formed A
name_or_other meaning other json = or_fault (listed_or meaning other json)

-- the object that a reference names
unfoldable pub reference_at : List ℕ → Data → Formed (List ℕ)
reference_at key json = and_then (field_of key reference_of json) (λ reference. Ok reference.id)

unfoldable pub reference_or_at : List ℕ → List ℕ → Data → Formed (List ℕ)
reference_or_at key default json = and_then (field_or_of key reference_of (record { id = default }) json) (λ reference. Ok reference.id)

unfoldable pub optional_reference_at : List ℕ → Data → Formed (Option (List ℕ))
optional_reference_at key json = and_then (optional_of key reference_of json) (λ found. Ok (option_map (λ reference. reference.id) found))

unfoldable pub references_at : List ℕ → Data → Formed (List (List ℕ))
references_at key json = and_then (listed_of key reference_of json) (λ found. Ok (map (λ reference. reference.id) found))

-- a whole number from the first to the second
unfoldable pub whole_within : ℤ → ℤ → Data → Option ℤ
whole_within low high json =
    option_and_then (λ number. cond (int_le low number && int_le number high) (Some number) None) (option_and_then as_i64 (as_number json))

abbrev pub whole_of : ℤ → ℤ → Data → Formed ℤ
whole_of low high json = or_fault (whole_within low high json)
