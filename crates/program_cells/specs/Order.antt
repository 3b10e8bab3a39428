-- The order of events.
use Rattle.std.specs.Prelude.{ℕ, ℤ, pos, List, [], ◌∷◌, if◌then◌else◌}
use Rattle.std.specs.Option.{option_cmp}
use Rattle.std.specs.Ordering.{on, then_cmp, is_lt, nat_cmp, int_cmp}
use Rattle.std.specs.Cmp.Lexicographic.{slice_cmp}
use Rattle.std.specs.declared.cmp.Ordering.{Ordering}
use Rattle.table_rows.specs.declared.event.EventRow.{EventRow}
use Rattle.table_rows.specs.declared.event.ItemValue.{ItemValue}
use Rattle.table_rows.specs.declared.event.ItemValue.TheVariants.{Number, Day, Plain}
use Rattle.table_rows.specs.Events.{event_cmp}

-- what sort of value it is, and its number
abbrev pub value_numbers : ItemValue → List ℤ
value_numbers (Number micros) = pos 0 ∷ micros ∷ []
value_numbers (Day day) = pos 1 ∷ day ∷ []
value_numbers Plain = []

abbrev pub value_cmp : ℕ × ItemValue → ℕ × ItemValue → Ordering
value_cmp = then_cmp (on (λ entry. entry.0) nat_cmp) (on (λ entry. value_numbers entry.1) (slice_cmp int_cmp))

-- events by all that they tell but day and identifier
abbrev pub rest_cmp : EventRow → EventRow → Ordering
rest_cmp =
    then_cmp (on (λ event. event.enrollment) (option_cmp (slice_cmp nat_cmp)))
    (then_cmp (on (λ event. event.entity) (option_cmp (slice_cmp nat_cmp)))
    (then_cmp (on (λ event. event.program) nat_cmp)
    (then_cmp (on (λ event. event.stage) nat_cmp)
    (then_cmp (on (λ event. event.order) nat_cmp)
    (then_cmp (on (λ event. event.enrolled) (option_cmp int_cmp))
    (then_cmp (on (λ event. event.values) (slice_cmp value_cmp))
    (on (λ event. event.attributes) (slice_cmp value_cmp))))))))

-- by day and identifier, which no two events of a store have in common; the rest decides between events that no store has
unfoldable pub whole_cmp : EventRow → EventRow → Ordering
whole_cmp = then_cmp event_cmp rest_cmp

-- by the day of the enrollment, the enrollment, and then by day and identifier
unfoldable pub enrolled_cmp : EventRow → EventRow → Ordering
enrolled_cmp =
    then_cmp (on (λ event. event.enrolled) (option_cmp int_cmp)) (then_cmp (on (λ event. event.enrollment) (option_cmp (slice_cmp nat_cmp))) whole_cmp)

-- a member more in a list in order
abbrev pub put : {X : Type 0} → (X → X → Ordering) → X → List X → List X
put cmp x [] = x ∷ []
put cmp x (y ∷ ys) = if is_lt (cmp x y) then x ∷ y ∷ ys else y ∷ put cmp x ys

abbrev pub in_order : {X : Type 0} → (X → X → Ordering) → List X → List X
in_order cmp [] = []
in_order cmp (x ∷ xs) = put cmp x (in_order cmp xs)
