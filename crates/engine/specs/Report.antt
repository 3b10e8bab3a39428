-- The report on a tracker bundle, as JSON data and as the text of it without spaces.
use Rattle.std.specs.Prelude.{ℕ, Bool, List, length, codes, cond, map, nat_eq, Option, Some, None}
use Rattle.std.specs.Str.Lossy.{utf8_lossy}
use Rattle.serde_json.specs.Data.{Data, null, number, unsigned, string, array, object, member, no_members}
use Rattle.serde_json.specs.View.{items_of}
use Rattle.serde_json.specs.Written.{compact_text}
use Rattle.dh_base.specs.Codes.{number_of}
use Rattle.dh_changes.specs.declared.outcome.Conflict.{Conflict}
use Rattle.dh_changes.specs.declared.outcome.Verdict.{Verdict}
use Rattle.tracker_import.specs.Outcomes.{total_of}

-- an identifier, null where there is none
abbrev pub uid_of : Option (List ℕ) → Data
uid_of None = null
uid_of (Some uid) = string (utf8_lossy uid)

-- a conflict, by the place of its object in the order of judging, counted from 0
unfoldable pub error_of : Conflict → Data
error_of conflict = object
    (member (codes "errorCode") (string (number_of conflict.code))
    (member (codes "index") (number (unsigned conflict.index))
    (member (codes "uid") (uid_of conflict.uid) no_members)))

unfoldable pub stats_of : Verdict → Data
stats_of verdict = object
    (member (codes "created") (number (unsigned verdict.imported))
    (member (codes "deleted") (number (unsigned verdict.deleted))
    (member (codes "ignored") (number (unsigned verdict.ignored))
    (member (codes "total") (number (unsigned (total_of verdict)))
    (member (codes "updated") (number (unsigned verdict.updated)) no_members)))))

-- there is no conflict
unfoldable pub is_clean : Verdict → Bool
is_clean verdict = nat_eq (length verdict.conflicts) 0

-- nothing is written
unfoldable pub is_idle : Verdict → Bool
is_idle verdict = nat_eq (length verdict.writes) 0

-- OK without conflicts, WARNING where something is written beside them, else ERROR
abbrev pub word_of : Verdict → List ℕ
word_of verdict = cond (is_clean verdict) (codes "OK") (cond (is_idle verdict) (codes "ERROR") (codes "WARNING"))

abbrev pub report_status_of : Verdict → ℕ
report_status_of verdict = cond (is_clean verdict) 200 (cond (is_idle verdict) 409 200)

unfoldable pub validation_of : Data → Data
validation_of errors = object (member (codes "errorReports") errors no_members)

unfoldable pub body_of : Data → List ℕ → Data → Data
body_of stats word validation = object
    (member (codes "stats") stats
    (member (codes "status") (string word)
    (member (codes "validationReport") validation no_members)))

unfoldable pub report_of : Verdict → Data
report_of verdict = body_of (stats_of verdict) (word_of verdict) (validation_of (array (items_of (map error_of verdict.conflicts))))

unfoldable pub report_text : Verdict → List ℕ
report_text verdict = compact_text (report_of verdict)
