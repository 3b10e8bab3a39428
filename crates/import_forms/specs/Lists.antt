-- Lists under the keys of JSON objects.
use Rattle.std.specs.Prelude.{ℕ, Bool, true, cond, List, [], Option, Some, None, is_some, Ok}
use Rattle.serde_json.specs.Data.{Data}
use Rattle.serde_json.specs.Find.{get, as_null}
use Rattle.json_read.specs.Forms.{Formed, listed_of}

-- nothing stands there; null counts as nothing
abbrev pub is_absent : Option Data → Bool
is_absent None = true
is_absent (Some json) = is_some (as_null json)

-- the records of a list, none where its key is absent
unfoldable pub list_at : {A : Type 0} → List ℕ → (Data → Formed A) → Data → Formed (List A)
list_at key form json = cond (is_absent (get key json)) (Ok []) (listed_of key form json)
