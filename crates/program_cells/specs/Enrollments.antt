-- The enrollments that the events of a program tell of.
use Rattle.std.specs.Prelude.{ℕ, Bool, false, ◌&&◌, nat_eq, if◌then◌else◌, List, [], ◌∷◌, ◌++◌}
use Rattle.std.specs.List.{filter}
use Rattle.std.specs.Option.{is_some, option_eq, option_map_or}
use Rattle.std.specs.Ordering.{int_eq}
use Rattle.dh_metadata.specs.Places.{same_id}
use Rattle.table_rows.specs.declared.event.EventRow.{EventRow}
use Rattle.program_cells.specs.Items.{first_of}
use Rattle.program_cells.specs.Order.{enrolled_cmp, in_order}

-- the event is of the program, and tells its enrollment and the day of that
unfoldable pub is_enrolled_in : ℕ → EventRow → Bool
is_enrolled_in program event = nat_eq event.program program && (is_some event.enrolled && is_some event.enrollment)

-- two events tell one enrollment: its day and its identifier
unfoldable pub is_one_enrollment : EventRow → EventRow → Bool
is_one_enrollment one other = option_eq int_eq one.enrolled other.enrolled && option_eq same_id one.enrollment other.enrollment

-- the first event of a subject passes the test
abbrev pub first_is : (EventRow → Bool) → List EventRow → Bool
first_is test subject = option_map_or test (first_of subject) false

-- an event more: it joins the last subject if both tell one enrollment, and else begins a subject
abbrev pub joined : List (List EventRow) → EventRow → List (List EventRow)
joined [] event = (event ∷ []) ∷ []
joined (last ∷ []) event =
    if first_is (λ first. is_one_enrollment first event) last then (last ++ event ∷ []) ∷ [] else last ∷ (event ∷ []) ∷ []
joined (first ∷ second ∷ more) event = first ∷ joined (second ∷ more) event

abbrev pub joined_to : List (List EventRow) → List EventRow → List (List EventRow)
joined_to subjects [] = subjects
joined_to subjects (event ∷ more) = joined_to (joined subjects event) more

-- events that stand next to each other and tell one enrollment, together
abbrev pub together : List EventRow → List (List EventRow)
together events = joined_to [] events

-- the enrollments of a program by the day on which each began and its identifier: each is its events by day and identifier
abbrev pub enrollments : ℕ → List EventRow → List (List EventRow)
enrollments program events = together (in_order enrolled_cmp (filter (is_enrolled_in program) events))
