-- The writes of a log, the keys that they name, and the days in them.
use Rattle.std.specs.Prelude.{ℕ, Bool, true, false, ◌&&◌, List, [], ◌∷◌, ◌++◌, Option, Some, None}
use Rattle.std.specs.List.{filter, filter_map, list_any}
use Rattle.dh_changes.specs.declared.change.Change.{Change}
use Rattle.dh_changes.specs.declared.change.Write.{Write}
use Rattle.dh_changes.specs.declared.change.Write.TheVariants as write
use Rattle.dh_changes.specs.declared.keys.ValueKey.{ValueKey}
use Rattle.dh_changes.specs.declared.keys.RegKey.{RegKey}
use Rattle.table_rows.specs.Events.{is_day_if_any}
use Rattle.dh_base.specs.Limits.{is_day}

-- the writes of changes, in order
abbrev pub writes_of : List Change → List Write
writes_of [] = []
writes_of (change ∷ more) = change.writes ++ writes_of more

abbrev pub value_named : Write → Option ValueKey
value_named (write.ValueSet key value) = Some key
value_named (write.ValueCleared key) = Some key
value_named _ = None

abbrev pub reg_named : Write → Option RegKey
reg_named (write.Complete key day) = Some key
reg_named (write.Uncomplete key) = Some key
reg_named _ = None

abbrev pub event_named : Write → Option (List ℕ)
event_named (write.EventWritten event) = Some event.id
event_named (write.EventDeleted id) = Some id
event_named _ = None

-- the keys that writes name, in the order of the writes

abbrev pub values_named : List Write → List ValueKey
values_named writes = filter_map value_named writes

abbrev pub regs_named : List Write → List RegKey
regs_named writes = filter_map reg_named writes

abbrev pub events_named : List Write → List (List ℕ)
events_named writes = filter_map event_named writes

-- a write of something else than a data value

abbrev pub is_other : Write → Bool
is_other (write.ValueSet key value) = false
is_other (write.ValueCleared key) = false
is_other _ = true

abbrev pub any_other : List Write → Bool
any_other writes = list_any is_other writes

abbrev pub has_other : Change → Bool
has_other change = any_other change.writes

-- the changes that have one
abbrev pub with_others : List Change → List Change
with_others changes = filter has_other changes

-- the days of a write lie in the years from 1900 to 2100
abbrev pub is_of_days : Write → Bool
is_of_days (write.EventWritten event) = is_day_if_any event.occurred && is_day_if_any event.scheduled
is_of_days (write.EnrollmentWritten enrollment) = is_day_if_any enrollment.enrolled && is_day_if_any enrollment.occurred
is_of_days (write.Complete key day) = is_day day
is_of_days _ = true
