-- The objects under a key of a metadata file.
use Rattle.std.specs.Prelude.{◌≡◌, ℕ, ◌+◌, List, [], ◌∷◌, Option, Some, None, cond, codes, Result, Ok, Err}
use Rattle.std.specs.Fmt.{decimal}
use Rattle.serde_json.specs.Data.{Data, Items, no_items, item}
use Rattle.serde_json.specs.Find.{get, as_array}
use Rattle.json_read.specs.Forms as forms
use Rattle.json_read.specs.Forms.{Formed, and_then, at_step, or_fault, found_of, field_of, identifier_of}
use Rattle.json_read.specs.declared.fault.FormFault.{FormFault}
use Rattle.json_read.specs.declared.fault.FormFault.TheVariants as fault
use Rattle.dh_metadata.specs.BuiltIn.{is_built_in}
use Rattle.meta_forms.specs.Fields.{name_of}

-- the number of a place, or that memory ran out
abbrev pub IsPlace : ℕ → Result ℕ FormFault → Type 0
IsPlace place (Ok number) = number ≡ place
IsPlace place (Err error) = error ≡ fault.Memory

-- an object by its place and identifier: its name, then its other fields
unfoldable pub named_form : {A B : Type 0} → (Data → Formed B) → (ℕ → List ℕ → List ℕ → B → A) → ℕ → List ℕ → Data → Formed A
named_form fields made place id json = and_then (name_of id json) (λ name. and_then (fields json) (λ values. Ok (made place id name values)))

-- what an object at a place stands for; one with the identifier of a built-in object is passed over
abbrev pub object_of : {A : Type 0} → (ℕ → List ℕ → Data → Formed A) → ℕ → Data → Formed (Option A)
object_of form place = forms.object_of (λ json.
    and_then (field_of (codes "id") identifier_of json) (λ id.
    cond (is_built_in id) (Ok None) (and_then (form place id json) (λ value. Ok (Some value)))))

-- a value in front of others, where there is one
abbrev pub kept : {A : Type 0} → Option A → List A → List A
kept None values = values
kept (Some value) values = value ∷ values

-- the objects of a list, the first of them at a place
abbrev pub objects_of : {A : Type 0} → (ℕ → List ℕ → Data → Formed A) → ℕ → Items → Formed (List A)
objects_of form place no_items = Ok []
objects_of form place (item json rest) =
    and_then (at_step (decimal place) (object_of form place json)) (λ found. and_then (objects_of form (place + 1) rest) (λ more. Ok (kept found more)))

abbrev pub list_of : {A : Type 0} → (ℕ → List ℕ → Data → Formed A) → Data → Formed (List A)
list_of form json = and_then (or_fault (as_array json)) (objects_of form 0)

-- the objects under a key, none where the key is absent
abbrev pub objects_at : {A : Type 0} → List ℕ → (ℕ → List ℕ → Data → Formed A) → Data → Formed (List A)
objects_at key form json = found_of key (list_of form) (Ok []) (get key json)
