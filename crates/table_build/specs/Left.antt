-- The years in which a log leaves something, by its writes and what it holds, without the rows.
use Rattle.std.specs.Prelude.{◌≡◌, Bool, ℕ, ℤ, List, Option, None, Some, option_map, option_and_then}
use Rattle.std.specs.List.{AllByRecursion, filter_map}
use Rattle.std.specs.Ordering.{int_cmp}
use Rattle.std.specs.BTreeMap.{insert_entry}
use Rattle.dh_changes.specs.declared.change.Write.{Write}
use Rattle.dh_changes.specs.declared.change.Write.TheVariants as write
use Rattle.dh_changes.specs.declared.keys.ValueKey.{ValueKey}
use Rattle.dh_changes.specs.declared.keys.RegKey.{RegKey}
use Rattle.dh_changes.specs.declared.tracker.Event.{Event}
use Rattle.dh_metadata.specs.declared.held.Records.{Records}
use Rattle.dh_changes.specs.Facts.{Facts}
use Rattle.table_sums.specs.Years.{period_year, day_year, is_year_if_any}
use Rattle.table_build.specs.declared.events.EventPlace.{EventPlace}
use Rattle.table_build.specs.Ordered.{in_order}
use Rattle.table_build.specs.Values as values
use Rattle.table_build.specs.Regs as registrations
use Rattle.table_build.specs.Events as tracker

-- the year of a key's row, if it has one
unfoldable pub value_year : Records → Facts → ValueKey → Option ℤ
value_year r facts key = option_and_then (λ text. option_map (λ objects. period_year key.period) (values.objects_of r key)) (facts.value key)

-- the year of a registration's row
unfoldable pub reg_year : Records → Facts → RegKey → Option ℤ
reg_year r facts key = option_and_then (λ day. option_map (λ objects. period_year key.period) (registrations.objects_of r key)) (facts.registration key)

-- the year of an event's row, of its place
unfoldable pub place_year : Records → Facts → EventPlace → Option ℤ
place_year r facts place =
    option_and_then (λ (event : Event). option_and_then (λ objects. day_year place.day) (tracker.objects_of r event)) (facts.event place.id)

unfoldable pub event_year : Records → Facts → List ℕ → Option ℤ
event_year r facts id = option_and_then (place_year r facts) (tracker.place_of facts id)

-- the year of what a write names
unfoldable pub write_year : Records → Facts → Write → Option ℤ
write_year r facts (write.ValueSet key value) = value_year r facts key
write_year r facts (write.ValueCleared key) = value_year r facts key
write_year r facts (write.Complete key day) = reg_year r facts key
write_year r facts (write.Uncomplete key) = reg_year r facts key
write_year r facts (write.EventWritten event) = event_year r facts event.id
write_year r facts (write.EventDeleted id) = event_year r facts id
write_year r facts _ = None

-- the year of what a write names, where the write itself tells it
unfoldable pub told_year : Write → Option ℤ
told_year (write.ValueSet key value) = Some (period_year key.period)
told_year (write.ValueCleared key) = Some (period_year key.period)
told_year (write.Complete key day) = Some (period_year key.period)
told_year (write.Uncomplete key) = Some (period_year key.period)
told_year _ = None

-- a year is among these, so that to put it there once more changes nothing
abbrev pub IsThere : List (ℤ × ℤ) → Option ℤ → Type 0
IsThere years None = ⊥
IsThere years (Some year) = insert_entry int_cmp years year year ≡ years

-- a write tells the year
abbrev pub tells : ℤ → Write → Bool
tells year w = is_year_if_any (told_year w) year

-- each write tells a year, which is among these
abbrev pub AreThere : List (ℤ × ℤ) → List Write → Type 0
AreThere years writes = AllByRecursion (λ w. IsThere years (told_year w)) writes

-- the years of what writes name, ascending, each once
unfoldable pub years_named : Records → Facts → List Write → List ℤ
years_named r facts writes = in_order int_cmp (λ year. year) (filter_map (write_year r facts) writes)
