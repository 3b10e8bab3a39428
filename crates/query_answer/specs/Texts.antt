-- Texts as JSON data, and as they are written.
use Rattle.std.specs.Prelude.{ℕ, List, ◌∷◌, map, flat_map, Bool, ◌&&◌, not, nat_eq, nat_le, nat_lt}
use Rattle.std.specs.Str.Lossy.{utf8_lossy}
use Rattle.serde_json.specs.Data.{Data, string}
use Rattle.serde_json.specs.Written.{compact_text}

-- bytes as a JSON text, where those that aren't UTF-8 are replaced
abbrev pub text_of_bytes : List ℕ → Data
text_of_bytes bytes = string (utf8_lossy bytes)

abbrev pub texts_of : List (List ℕ) → List Data
texts_of texts = map text_of_bytes texts

-- ASCII that stands in quotes as it is
abbrev pub is_plain : ℕ → Bool
is_plain byte = nat_le 32 byte && (nat_lt byte 128 && (not (nat_eq byte 34) && not (nat_eq byte 92)))

-- the JSON text in its quotes
unfoldable pub in_quotes : List ℕ → List ℕ
in_quotes bytes = compact_text (text_of_bytes bytes)

-- texts of an array after its first
unfoldable pub more_texts : List (List ℕ) → List ℕ
more_texts texts = flat_map (λ text. 44 ∷ in_quotes text) texts
