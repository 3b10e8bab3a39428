-- Texts and numbers of the bodies.
use Rattle.std.proofs.Common.{◌≡◌, ℕ, ◌++◌, ◌∷◌, false, List, [], refl, sym, ap, append_assoc}
use Rattle.std.specs.Prelude.{codes, decimal}
use Rattle.dh_base.specs.declared.plain.CutKind.{CutKind}
use Rattle.dh_base.specs.declared.plain.CutKind.TheVariants.{Full, Latest}
use Rattle.serde_json.proofs.OnLiterals.{serde_json_on_literals}
use Rattle.std.specs.Fmt.{digits}
use Rattle.serde_json.specs.Written.{has_float}
use Rattle.request_session.specs.Bodies.{phrase_of, reply_of, error_of, memory_text, plain_text, update_text, update_pieces, before_published}

-- ---- updates

behind_number : (digits rest : List ℕ) → (digits ++ 125 ∷ []) ++ rest ≡ digits ++ 125 ∷ rest
behind_number digits rest = append_assoc digits (125 ∷ []) rest

pub update_by_pieces : (kind : CutKind) (published : ℕ) → update_pieces kind published ≡ update_text kind published
unfolding phrase_of reply_of update_text update_pieces digits serde_json_on_literals
update_by_pieces Full published = ap (λ text. before_published Full ++ text) (sym (behind_number (decimal published) (codes ",\"status\":\"OK\"}")))
update_by_pieces Latest published = ap (λ text. before_published Latest ++ text) (sym (behind_number (decimal published) (codes ",\"status\":\"OK\"}")))

-- ---- fixed bodies

pub memory_bytes : codes "{\"errorCode\":\"M\",\"httpStatus\":\"Insufficient Storage\",\"httpStatusCode\":507,\"message\":\"Memory\",\"status\":\"ERROR\"}"
    ≡ memory_text
unfolding phrase_of error_of memory_text digits serde_json_on_literals
memory_bytes = refl

pub plain_bytes : codes "{\"httpStatus\":\"OK\",\"httpStatusCode\":200,\"status\":\"OK\"}" ≡ plain_text
unfolding phrase_of plain_text digits serde_json_on_literals
plain_bytes = refl

-- ---- no number is a float

pub error_whole : (code : List ℕ) (status : ℕ) (message : List ℕ) → has_float (error_of code status message) ≡ false
unfolding error_of
error_whole code status message = refl
