-- The conditions that objects of all kinds share.
use Rattle.std.specs.Prelude.{ℕ, Bool, true, false, not, cond, List, [], ◌∷◌, Option, Some, None, option_and_then, ℤ, bytes_eq}
use Rattle.std.specs.Option.{option_map_or, option_or, is_none}
use Rattle.std.specs.List.{list_any}
use lib.Chars.{codes}
use Rattle.dh_base.specs.declared.codes.Code.{Code}
use Rattle.dh_base.specs.Uid.{uid_of}
use Rattle.dh_base.specs.declared.codes.Code.TheVariants.{T6, T7, T13, T14}
use Rattle.dh_sharing.specs.declared.access.Right.TheVariants.{DataWrite}
use Rattle.dh_metadata.specs.declared.held.Records.{Records}
use Rattle.dh_metadata.specs.declared.kind.Kind.{Kind}
use Rattle.dh_changes.specs.Facts.{Facts}
use Rattle.dh_changes.specs.Said.{same_id}
use Rattle.dh_changes.specs.declared.outcome.Who.{Who}
use Rattle.dh_changes.specs.declared.outcome.ImportStrategy.{ImportStrategy}
use Rattle.dh_records.specs.Access.{access}
use Rattle.dh_changes.specs.declared.change.Write.{Write}
use Rattle.tracker_import.specs.declared.judged.Judged.{Judged}
use Rattle.tracker_import.specs.declared.judged.Judged.TheVariants as judged
use Rattle.value_import.specs.Dates.{dated}
use Rattle.value_import.specs.Rules.{Condition, first_of, of_user, is_captured}
use Rattle.value_import.specs.Values.{is_delete_all, is_misplaced}

-- the identifier that a text is
abbrev pub id_in : Option (List ℕ) → Option (List ℕ)
id_in text = option_and_then uid_of text

-- the code of the first condition that holds, of several lists in their order
abbrev pub first_in : List (List Condition) → Option Code
first_in [] = None
first_in (list ∷ more) = option_or (first_of list) (first_in more)

-- ---- where, and by whom

-- the unit isn't under a capture unit of who asks
unfoldable pub is_outside : Facts → Records → Who → Option ℕ → Bool
is_outside facts r who unit = of_user (λ user. not (option_map_or (λ u. is_captured facts r u user) unit false)) who

-- who asks may not write data of the object
unfoldable pub is_barred : Facts → Records → Who → Kind → Option ℕ → Bool
is_barred facts r who kind owner = of_user (λ user. not (option_map_or (access facts r user DataWrite kind) owner false)) who

-- the unit is outside of the user's capture units; the user may not write data of the tracked entity type or the program
unfoldable pub right_conditions : Facts → Records → Who → Option ℕ → Kind → Option ℕ → List Condition
right_conditions facts r who unit kind owner =
    (T6, is_outside facts r who unit)
    ∷ (T7, is_barred facts r who kind owner)
    ∷ []

-- ---- against what there is

-- the identifier stands among those of the objects judged before, some of which had none
abbrev pub is_judged : List (Option (List ℕ)) → List ℕ → Bool
is_judged judged id = list_any (λ other. option_map_or (λ own. same_id own id) other false) judged

abbrev pub is_repeated : List (Option (List ℕ)) → Option (List ℕ) → Bool
is_repeated judged id = option_map_or (is_judged judged) id false

-- against the strategy; judged before in the bundle
unfoldable pub standing_conditions : ImportStrategy → Bool → Bool → List Condition
standing_conditions chosen live repeated =
    (T13, is_misplaced chosen (is_delete_all chosen) live)
    ∷ (T14, repeated)
    ∷ []

-- ---- dates and statuses

-- a text that tells no day
abbrev pub is_no_day : Option (List ℕ) → Bool
is_no_day text = option_map_or (λ own. is_none (dated own)) text false

abbrev pub day_in : Option (List ℕ) → Option ℤ
day_in text = option_and_then dated text

-- what stands beside a text in a table
abbrev pub beside : List (List ℕ × ℕ) → List ℕ → Option ℕ
beside [] text = None
beside (entry ∷ more) text = cond (bytes_eq text entry.0) (Some entry.1) (beside more text)

-- the places of the statuses of an event that hasn't occurred
unfoldable pub pending_status_of : List ℕ → Option ℕ
pending_status_of text =
    cond (bytes_eq text (codes "SCHEDULE")) (Some 3)
    (cond (bytes_eq text (codes "OVERDUE")) (Some 4)
    (cond (bytes_eq text (codes "SKIPPED")) (Some 5) None))

-- the places of the statuses of an event, counted from 0
unfoldable pub event_status_of : List ℕ → Option ℕ
event_status_of text =
    cond (bytes_eq text (codes "ACTIVE")) (Some 0)
    (cond (bytes_eq text (codes "COMPLETED")) (Some 1)
    (cond (bytes_eq text (codes "VISITED")) (Some 2) (pending_status_of text)))

-- the same of an enrollment
unfoldable pub enrollment_status_of : List ℕ → Option ℕ
enrollment_status_of text =
    cond (bytes_eq text (codes "ACTIVE")) (Some 0)
    (cond (bytes_eq text (codes "COMPLETED")) (Some 1)
    (cond (bytes_eq text (codes "CANCELLED")) (Some 2) None))

-- an absent status is ACTIVE
abbrev pub status_in : (List ℕ → Option ℕ) → Option (List ℕ) → Option ℕ
status_in places None = Some 0
status_in places (Some text) = places text

-- ---- what an object comes to

-- the first condition that holds is the object's conflict; an object without one is taken
abbrev pub judged_by : Option Code → Judged → Judged
judged_by (Some code) taken = judged.Refused code
judged_by None taken = taken

-- an object that was there is updated, another created
abbrev pub put : Bool → List Write → Judged
put true writes = judged.Updated writes
put false writes = judged.Created writes
