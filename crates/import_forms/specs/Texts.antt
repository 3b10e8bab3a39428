-- Texts and truths under the keys of JSON objects.
use Rattle.std.specs.Prelude.{ℕ, Bool, true, false, cond, List, Option, Some, None, is_some, option_and_then, codes, Ok}
use Rattle.std.specs.Fmt.{decimal, signed_decimal}
use Rattle.serde_json.specs.Data.{Num, unsigned, negative, float, Data, null, boolean, number, string, array, object}
use Rattle.serde_json.specs.Find.{get, as_null, as_bool, as_str}
use Rattle.json_read.specs.Forms.{Formed, and_then, text_of, field_or_of}
use Rattle.import_forms.specs.declared.text.TextOrNull.{TextOrNull}

-- ---- keys whose value has to be a text

-- a text; null stands for none
unfoldable pub text_or_null_of : Data → Formed TextOrNull
text_or_null_of json = cond (is_some (as_null json)) (Ok (record { text = None })) (and_then (text_of json) (λ text. Ok (record { text = Some text })))

-- the text under a key, none where the key is absent
unfoldable pub text_at : List ℕ → Data → Formed (Option (List ℕ))
text_at key json = and_then (field_or_of key text_or_null_of (record { text = None }) json) (λ found. Ok found.text)

-- ---- keys whose value counts as absent where it is of another type

abbrev pub text_in : List ℕ → Data → Option (List ℕ)
text_in key json = option_and_then as_str (get key json)

-- the texts under four keys
abbrev pub four_texts_in : (a b c d : List ℕ) → Data → (Option (List ℕ) × Option (List ℕ)) × (Option (List ℕ) × Option (List ℕ))
four_texts_in a b c d json = ((text_in a json, text_in b json), (text_in c json, text_in d json))

abbrev pub truth_in : List ℕ → Data → Option Bool
truth_in key json = option_and_then as_bool (get key json)

abbrev pub truth_text : Bool → List ℕ
truth_text true = codes "true"
truth_text false = codes "false"

-- the decimal form of a whole number
abbrev pub whole_text : Num → Option (List ℕ)
whole_text (unsigned n) = Some (decimal n)
whole_text (negative z) = Some (signed_decimal z)
whole_text (float _) = None

-- a text as it stands, and a whole number or a truth by its text
abbrev pub written_of : Data → Option (List ℕ)
written_of null = None
written_of (boolean truth) = Some (truth_text truth)
written_of (number n) = whole_text n
written_of (string text) = Some text
written_of (array _) = None
written_of (object _) = None

abbrev pub written_in : List ℕ → Data → Option (List ℕ)
written_in key json = option_and_then written_of (get key json)
