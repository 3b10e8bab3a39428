-- An event more among the subjects.
use Rattle.std.proofs.Common.{◌≡◌, ◌∙◌, List, [], ◌∷◌, ◌++◌, if◌then◌else◌, cond, Bool, true, false, refl, sym, ap}
use Rattle.table_rows.specs.declared.event.EventRow.{EventRow}
use Rattle.program_cells.specs.Enrollments.{is_one_enrollment, first_is, joined}

abbrev pub goes_on : EventRow → List EventRow → Bool
goes_on event last = first_is (λ first. is_one_enrollment first event) last

-- what becomes of the last subject
joined_last : (subjects : List (List EventRow)) (last : List EventRow) (event : EventRow)
    → joined (subjects ++ last ∷ []) event
    ≡ subjects ++ (if goes_on event last then (last ++ event ∷ []) ∷ [] else last ∷ (event ∷ []) ∷ [])
joined_last [] last event = refl
joined_last (s ∷ []) last event = refl
joined_last (s ∷ t ∷ more) last event = ap (λ rest. s ∷ rest) (joined_last (t ∷ more) last event)

pub joined_on : (all subjects : List (List EventRow)) (last : List EventRow) (event : EventRow) → all ≡ subjects ++ last ∷ []
    → goes_on event last ≡ true → subjects ++ (last ++ event ∷ []) ∷ [] ≡ joined all event
joined_on all subjects last event are on =
    sym (ap (λ list. joined list event) are ∙ joined_last subjects last event
    ∙ ap (λ b. subjects ++ cond b ((last ++ event ∷ []) ∷ []) (last ∷ (event ∷ []) ∷ [])) on)

pub joined_new : (all subjects : List (List EventRow)) (last : List EventRow) (event : EventRow) → all ≡ subjects ++ last ∷ []
    → goes_on event last ≡ false → subjects ++ last ∷ (event ∷ []) ∷ [] ≡ joined all event
joined_new all subjects last event are on =
    sym (ap (λ list. joined list event) are ∙ joined_last subjects last event
    ∙ ap (λ b. subjects ++ cond b ((last ++ event ∷ []) ∷ []) (last ∷ (event ∷ []) ∷ [])) on)
