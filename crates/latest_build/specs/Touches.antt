-- The events and values that writes touch.
use Rattle.std.specs.Prelude.{ℕ, Bool, Option, Some, None, List, [], ◌∷◌, ◌++◌, map}
use Rattle.std.specs.List.{filter, filter_map}
use Rattle.std.specs.Option.{is_some}
use Rattle.dh_changes.specs.declared.change.Write.{Write}
use Rattle.dh_changes.specs.declared.change.Write.TheVariants as write
use Rattle.dh_changes.specs.declared.keys.ApprovalKey.{ApprovalKey}
use Rattle.dh_changes.specs.declared.keys.ValueKey.{ValueKey}
use Rattle.dh_metadata.specs.declared.held.Records.{Records}
use Rattle.dh_changes.specs.Facts.{Facts, facts_in}
use Rattle.dh_records.specs.Approved.{approved_at}
use Rattle.table_rows.specs.Cells.{gathered}
use Rattle.table_build.specs.Log.{values_named, regs_named}
use Rattle.table_latest.specs.Latest.{Touched}
use Rattle.table_build.specs.Values as values
use Rattle.latest_build.specs.Places.{touched_of}

-- the events of the enrollments of an entity
abbrev pub events_under : Facts → List ℕ → List (List ℕ)
events_under facts entity = gathered facts.events_of (facts.enrollments_of entity)

-- a write touches the event that it names, the events of the enrollment that it names, and those of the enrollments of the entity that it
-- names, by what the log holds after it
abbrev pub events_by : Facts → Write → List (List ℕ)
events_by facts (write.EventWritten event) = event.id ∷ []
events_by facts (write.EventDeleted id) = id ∷ []
events_by facts (write.EnrollmentWritten enrollment) = facts.events_of enrollment.id
events_by facts (write.EnrollmentDeleted id) = facts.events_of id
events_by facts (write.EntityWritten entity) = events_under facts entity.id
events_by facts (write.EntityDeleted id) = events_under facts id
events_by facts _ = []

abbrev pub events_touched : Facts → List Write → List (List ℕ)
events_touched facts writes = gathered (events_by facts) writes

-- ---- values

-- the key that a write of an approval names
abbrev pub approval_named : Write → Option ApprovalKey
approval_named (write.Approve key) = Some key
approval_named (write.Unapprove key) = Some key
approval_named (write.Accept key) = Some key
approval_named (write.Unaccept key) = Some key
approval_named _ = None

abbrev pub approvals_named : List Write → List ApprovalKey
approvals_named writes = filter_map approval_named writes

-- what a log holds that approves these keys and no others
abbrev pub approved_alone : List ApprovalKey → Facts
approved_alone keys = facts_in (map write.Approve keys)

-- a value has an approved position after a log
abbrev pub has_position : Records → Facts → ValueKey → Bool
has_position r facts key = is_some (approved_at facts r key)

-- writes decide how far a value is approved where one of the approvals that they name is asked for it: were these approved and no others,
-- it would have a position
abbrev pub is_decided : Records → List Write → ValueKey → Bool
is_decided r writes key = has_position r (approved_alone (approvals_named writes)) key

abbrev pub has_row : Records → Facts → ValueKey → Bool
has_row r facts key = is_some (values.row_of r facts key)

-- the values of which the tables of a log have a row
abbrev pub values_held : Records → List Write → List ValueKey
values_held r writes = filter (has_row r (facts_in writes)) (values_named writes)

-- the values that the last writes touch, after those of the base: those that they name, and of those of the base each whose approval they
-- decide. What an approval was before and is after them plays no part, so tables that stand for a part of them are led on too
abbrev pub values_touched : Records → List Write → List Write → List ValueKey
values_touched r base last = values_named last ++ filter (is_decided r last) (values_held r base)

-- ---- all that the last writes touch, as keys of tables, by what the log holds after them
abbrev pub touched_by : Records → Facts → List Write → List Write → Touched
touched_by r facts base last = touched_of r facts (values_touched r base last) (events_touched facts last) (regs_named last)
