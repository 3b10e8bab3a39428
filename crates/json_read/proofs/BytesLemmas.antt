-- The data of bytes by the tree of their text.
use Rattle.std.proofs.Common.{◌≡◌, ℕ, Bool, true, false, cond, List, Option, Some, None, option_map, option_and_then, refl, sym, ap, ◌∙◌}
use Rattle.std.specs.Str.{IsUtf8, is_utf8}
use Rattle.std.proofs.lemmas.Str.{IsUtf8-from_is_utf8, is_utf8-from_IsUtf8}
use Rattle.std.specs.declared.alloc.Global.{Global}
use Rattle.json.specs.Json as json
use Rattle.json.specs.Value.{value_view}
use Rattle.json.specs.declared.value.Value.{Value}
use Rattle.serde_json.specs.Read.{of_json}
use Rattle.json_read.specs.Bytes.{tree_of, kept, document_of}
use Rattle.json_read.specs.Meant.{is_within, meant}
use Rattle.json_read.specs.Views.{data_of}
use Rattle.json_read.proofs.MeantLemmas.{within, beyond}

of_kept : (j : json.Json) (b : Bool) → is_within j ≡ b → option_map meant (cond b (Some j) None) ≡ of_json j
of_kept j true h = sym (within j h)
of_kept j false h = sym (beyond j h)

of_tree : (o : Option json.Json) → option_map meant (kept o) ≡ option_and_then of_json o
of_tree None = refl
of_tree (Some j) = of_kept j (is_within j) refl

data_of_kept : (o : Option (Value Global)) → option_map data_of o ≡ option_map meant (option_map value_view o)
data_of_kept None = refl
data_of_kept (Some v) = refl

pub read_of : (bytes : List ℕ) (o : Option (Value Global)) → IsUtf8 bytes → option_map value_view o ≡ kept (tree_of bytes)
    → option_map data_of o ≡ document_of bytes
read_of bytes o utf8 e =
    data_of_kept o ∙ ap (option_map meant) e ∙ of_tree (tree_of bytes) ∙ rw (is_utf8-from_IsUtf8 bytes utf8) refl

pub not_text : (bytes : List ℕ) → ¬ IsUtf8 bytes → None ≡ document_of bytes
not_text bytes never = no_document (is_utf8 bytes) refl
  where
    no_document : (b : Bool) → is_utf8 bytes ≡ b → None ≡ document_of bytes
    no_document true e = absurd (never (IsUtf8-from_is_utf8 bytes e))
    no_document false e = rw e refl
