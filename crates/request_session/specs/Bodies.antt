-- The bodies of replies, as JSON data and as the text of it without spaces.
use Rattle.std.specs.Prelude.{ℕ, List, [], ◌∷◌, ◌++◌, Option, Some, None, codes, decimal}
use Rattle.std.specs.Str.Lossy.{utf8_lossy}
use Rattle.serde_json.specs.Data.{Data, number, unsigned, string, object, member, no_members}
use Rattle.serde_json.specs.Written.{compact_text}
use Rattle.http.specs.StatusCode.{reason_phrase}
use Rattle.dh_base.specs.Codes.{number_of, name_of, status_of}
use Rattle.dh_base.specs.declared.codes.Refusal.{Refusal}
use Rattle.dh_base.specs.declared.plain.CutKind.{CutKind}
use Rattle.dh_base.specs.declared.plain.CutKind.TheVariants.{Full, Latest}

abbrev pub text_or_none : Option (List ℕ) → List ℕ
text_or_none None = []
text_or_none (Some text) = text

-- the phrase that stands after a status
unfoldable pub phrase_of : ℕ → List ℕ
phrase_of status = text_or_none (reason_phrase status)

-- ---- errors

-- a space and the detail, where there is one
abbrev pub detail_text : List ℕ → List ℕ
detail_text [] = []
detail_text (byte ∷ bytes) = codes " " ++ byte ∷ bytes

abbrev pub message_of : Refusal → List ℕ
message_of refusal = name_of refusal.code ++ detail_text refusal.detail

-- an error of this number, status and message
unfoldable pub error_of : List ℕ → ℕ → List ℕ → Data
error_of code status message = object
    (member (codes "errorCode") (string code)
    (member (codes "httpStatus") (string (phrase_of status))
    (member (codes "httpStatusCode") (number (unsigned status))
    (member (codes "message") (string message)
    (member (codes "status") (string (codes "ERROR")) no_members)))))

-- a refusal, where bytes of the message that aren't UTF-8 are replaced
abbrev pub refusal_of : Refusal → Data
refusal_of refusal = error_of (number_of refusal.code) (status_of refusal.code) (utf8_lossy (message_of refusal))

unfoldable pub error_text : Refusal → List ℕ
error_text refusal = compact_text (refusal_of refusal)

-- a lack of memory
unfoldable pub memory_text : List ℕ
memory_text = compact_text (error_of (codes "M") 507 (codes "Memory"))

-- ---- what is accepted and says no more

unfoldable pub plain_text : List ℕ
plain_text = compact_text
    (object
    (member (codes "httpStatus") (string (phrase_of 200))
    (member (codes "httpStatusCode") (number (unsigned 200))
    (member (codes "status") (string (codes "OK")) no_members))))

-- ---- updates

abbrev pub kind_name : CutKind → List ℕ
kind_name Full = codes "FULL"
kind_name Latest = codes "LATEST"

-- a reply of this status, with what it says of the request
unfoldable pub reply_of : ℕ → Data → List ℕ → Data
reply_of status response word = object
    (member (codes "httpStatus") (string (phrase_of status))
    (member (codes "httpStatusCode") (number (unsigned status))
    (member (codes "response") response
    (member (codes "status") (string word) no_members))))

-- an update of the tables, which stand for so many changes now
abbrev pub update_of : CutKind → ℕ → Data
update_of kind published = reply_of 200
    (object (member (codes "kind") (string (kind_name kind)) (member (codes "published") (number (unsigned published)) no_members))) (codes "OK")

unfoldable pub update_text : CutKind → ℕ → List ℕ
update_text kind published = compact_text (update_of kind published)

abbrev pub before_published : CutKind → List ℕ
before_published Full = codes "{\"httpStatus\":\"OK\",\"httpStatusCode\":200,\"response\":{\"kind\":\"FULL\",\"published\":"
before_published Latest = codes "{\"httpStatus\":\"OK\",\"httpStatusCode\":200,\"response\":{\"kind\":\"LATEST\",\"published\":"

abbrev pub after_published : List ℕ
after_published = codes "},\"status\":\"OK\"}"

-- the same text by its pieces
unfoldable pub update_pieces : CutKind → ℕ → List ℕ
update_pieces kind published = before_published kind ++ decimal published ++ after_published
