-- The summary of an import of values or completions, as JSON data and as the text of it without spaces.
use Rattle.std.specs.Prelude.{ℕ, Bool, List, length, codes, cond, map, nat_eq}
use Rattle.serde_json.specs.Data.{Data, number, unsigned, string, array, object, member, no_members}
use Rattle.serde_json.specs.View.{items_of}
use Rattle.serde_json.specs.Written.{compact_text}
use Rattle.dh_base.specs.Codes.{number_of}
use Rattle.dh_changes.specs.declared.outcome.Conflict.{Conflict}
use Rattle.dh_changes.specs.declared.outcome.Verdict.{Verdict}
use Rattle.request_session.specs.Bodies.{reply_of}

-- a conflict, by the place of its object counted from 0
unfoldable pub conflict_of : Conflict → Data
conflict_of conflict = object
    (member (codes "errorCode") (string (number_of conflict.code)) (member (codes "index") (number (unsigned conflict.index)) no_members))

unfoldable pub counts_of : Verdict → Data
counts_of verdict = object
    (member (codes "deleted") (number (unsigned verdict.deleted))
    (member (codes "ignored") (number (unsigned verdict.ignored))
    (member (codes "imported") (number (unsigned verdict.imported))
    (member (codes "updated") (number (unsigned verdict.updated)) no_members))))

unfoldable pub response_of : Data → Data → List ℕ → Data
response_of conflicts counts word = object
    (member (codes "conflicts") conflicts
    (member (codes "importCount") counts
    (member (codes "responseType") (string (codes "ImportSummary"))
    (member (codes "status") (string word) no_members))))

-- there is no conflict
unfoldable pub is_clean : Verdict → Bool
is_clean verdict = nat_eq (length verdict.conflicts) 0

abbrev pub summary_status_of : Verdict → ℕ
summary_status_of verdict = cond (is_clean verdict) 200 409

abbrev pub word_within : Verdict → List ℕ
word_within verdict = cond (is_clean verdict) (codes "SUCCESS") (codes "WARNING")

abbrev pub word_of : Verdict → List ℕ
word_of verdict = cond (is_clean verdict) (codes "OK") (codes "WARNING")

unfoldable pub summary_response : Verdict → Data
summary_response verdict = response_of (array (items_of (map conflict_of verdict.conflicts))) (counts_of verdict) (word_within verdict)

unfoldable pub summary_of : Verdict → Data
summary_of verdict = reply_of (summary_status_of verdict) (summary_response verdict) (word_of verdict)

unfoldable pub summary_text : Verdict → List ℕ
summary_text verdict = compact_text (summary_of verdict)
