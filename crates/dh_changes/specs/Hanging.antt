-- Which objects hang on another.
use Rattle.std.specs.Prelude.{ℕ, Bool, false, List, Option, None, Some, map}
use Rattle.std.specs.List.{filter}
use Rattle.std.specs.FinMap as finite
use Rattle.std.specs.Cmp.Lexicographic.{slice_cmp}
use Rattle.std.specs.Ordering.{nat_cmp}
use Rattle.dh_changes.specs.declared.tracker.Event.{Event}
use Rattle.dh_changes.specs.declared.tracker.Enrollment.{Enrollment}
use Rattle.dh_changes.specs.Said.{same_id}

-- the enrollment that an event hangs on
abbrev pub event_parent : Option Event → Option (List ℕ)
event_parent None = None
event_parent (Some event) = event.enrollment

-- the entity that an enrollment hangs on
abbrev pub enrollment_parent : Option Enrollment → Option (List ℕ)
enrollment_parent None = None
enrollment_parent (Some enrollment) = Some enrollment.entity

-- the parent is this one
abbrev pub hangs_on : Option (List ℕ) → List ℕ → Bool
hangs_on None parent = false
hangs_on (Some other) parent = same_id other parent

abbrev pub marked : List (List ℕ) → List (List ℕ × Unit {0})
marked ids = map (λ id. (id, tt)) ids

-- ascending by their bytes, each once: the keys of the finite map of these keys
unfoldable pub in_order : List (List ℕ) → List (List ℕ)
in_order ids = finite.keys (finite.from_entries {R = slice_cmp nat_cmp} (marked ids))

-- those of the identifiers that hang on the parent
abbrev pub hanging : (List ℕ → Option (List ℕ)) → List (List ℕ) → List ℕ → List (List ℕ)
hanging parent_of ids parent = in_order (filter (λ id. hangs_on (parent_of id) parent) ids)
