-- What the writes of a verdict are.
use Rattle.std.specs.Prelude.{◌≡◌, ℕ, ◌≤◌, List, length, Option, Some, ℤ, ⊤}
use Rattle.dh_changes.specs.declared.change.Write.{Write}
use Rattle.dh_changes.specs.declared.change.Write.TheVariants.{ValueSet, ValueCleared, EventWritten, EventDeleted, EnrollmentWritten, EnrollmentDeleted}
use Rattle.dh_changes.specs.declared.change.Write.TheVariants.{EntityWritten, EntityDeleted, Approve, Unapprove, Accept, Unaccept, Complete, Uncomplete}
use Rattle.value_import.specs.Dates.{day_told}

-- the day is today or that of a text
abbrev pub IsTold : ℤ → ℤ → Type 0
IsTold today day = (text : Option (List ℕ)) × (day_told today text ≡ Some day)

-- a value of at most 1,024 bytes is set, one is cleared, or a set is completed on such a day or no longer completed
abbrev pub IsValueWrite : ℤ → Write → Type 0
IsValueWrite today (ValueSet key value) = length value ≤ 1024
IsValueWrite today (ValueCleared key) = ⊤
IsValueWrite today (EventWritten event) = ⊥
IsValueWrite today (EventDeleted id) = ⊥
IsValueWrite today (EnrollmentWritten enrollment) = ⊥
IsValueWrite today (EnrollmentDeleted id) = ⊥
IsValueWrite today (EntityWritten entity) = ⊥
IsValueWrite today (EntityDeleted id) = ⊥
IsValueWrite today (Approve key) = ⊥
IsValueWrite today (Unapprove key) = ⊥
IsValueWrite today (Accept key) = ⊥
IsValueWrite today (Unaccept key) = ⊥
IsValueWrite today (Complete key day) = IsTold today day
IsValueWrite today (Uncomplete key) = ⊤
