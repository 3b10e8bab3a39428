-- What JSON data stands for in a stated form, or the path of the first place in it that is not in the form.
--
-- A path has keys and places, counted from 0, joined by points, as `dataElements.3.valueType`. The empty path is the
-- data itself.
use Rattle.std.specs.Prelude.{ℕ, ◌+◌, Bool, List, [], ◌∷◌, ◌++◌, Option, None, Some, Result, Ok, Err}
use Rattle.std.specs.Fmt.{decimal}
use Rattle.serde_json.specs.Data.{Data, Items, no_items, item}
use Rattle.serde_json.specs.Find.{get, as_str, as_bool, as_array, as_object}
use Rattle.dh_base.specs.Uid.{uid_of}

-- a value, or the path of a fault
abbrev pub Formed : Type 0 → Type 0
Formed A = Result A (List ℕ)

-- a path with one more step in front
abbrev pub after_step : List ℕ → List ℕ → List ℕ
after_step step [] = step
after_step step (byte ∷ path) = step ++ 46 ∷ byte ∷ path

-- a fault found after a step has the step in its path
abbrev pub at_step : {A : Type 0} → List ℕ → Formed A → Formed A
at_step step (Ok value) = Ok value
at_step step (Err path) = Err (after_step step path)

-- go on with the value, or keep the fault
abbrev pub and_then : {A B : Type 0} → Formed A → (A → Formed B) → Formed B
and_then (Ok value) next = next value
and_then (Err path) next = Err path

-- what an option holds; else the data is at fault
abbrev pub or_fault : {A : Type 0} → Option A → Formed A
or_fault (Some value) = Ok value
or_fault None = Err []

abbrev pub text_of : Data → Formed (List ℕ)
text_of json = or_fault (as_str json)

abbrev pub truth_of : Data → Formed Bool
truth_of json = or_fault (as_bool json)

-- a text that is an identifier
abbrev pub identifier_of : Data → Formed (List ℕ)
identifier_of json = and_then (text_of json) (λ text. or_fault (uid_of text))

-- each of some items, the first of them at a place
abbrev pub each_of : {A : Type 0} → (Data → Formed A) → ℕ → Items → Formed (List A)
each_of form place no_items = Ok []
each_of form place (item json rest) =
    and_then (at_step (decimal place) (form json)) (λ value. and_then (each_of form (place + 1) rest) (λ values. Ok (value ∷ values)))

-- a list of values of one form
abbrev pub list_of : {A : Type 0} → (Data → Formed A) → Data → Formed (List A)
list_of form json = and_then (or_fault (as_array json)) (each_of form 0)

-- what stands under a key, in a form, or what is meant where the key is absent
abbrev pub found_of : {A : Type 0} → List ℕ → (Data → Formed A) → Formed A → Option Data → Formed A
found_of key form absent (Some json) = at_step key (form json)
found_of key form absent None = absent

-- a field that has to be there
abbrev pub field_of : {A : Type 0} → List ℕ → (Data → Formed A) → Data → Formed A
field_of key form json = found_of key form (Err key) (get key json)

-- a field that may be absent
abbrev pub optional_of : {A : Type 0} → List ℕ → (Data → Formed A) → Data → Formed (Option A)
optional_of key form json = found_of key (λ inner. and_then (form inner) (λ value. Ok (Some value))) (Ok None) (get key json)

-- a list that is empty where its key is absent
abbrev pub listed_of : {A : Type 0} → List ℕ → (Data → Formed A) → Data → Formed (List A)
listed_of key form json = found_of key (list_of form) (Ok []) (get key json)

-- a field that has a default
abbrev pub field_or_of : {A : Type 0} → List ℕ → (Data → Formed A) → A → Data → Formed A
field_or_of key form default json = found_of key form (Ok default) (get key json)

-- the data is an object
abbrev pub object_of : {A : Type 0} → (Data → Formed A) → Data → Formed A
object_of form json = and_then (or_fault (as_object json)) (λ members. form json)
