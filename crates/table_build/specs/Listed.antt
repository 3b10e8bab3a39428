-- The lists of a store, as a log leaves them.
use Rattle.std.specs.Prelude.{List}
use Rattle.dh_changes.specs.declared.change.Write.{Write}
use Rattle.dh_metadata.specs.declared.held.Records.{Records}
use Rattle.dh_changes.specs.Facts.{Facts, facts_in}
use Rattle.table_rows.specs.declared.row.Row.{Row}
use Rattle.table_rows.specs.declared.event.EventRow.{EventRow}
use Rattle.table_rows.specs.declared.event.RegRow.{RegRow}
use Rattle.table_rows.specs.Store.{Listed}
use Rattle.table_build.specs.Log.{values_named, regs_named, events_named}
use Rattle.table_build.specs.Values as values
use Rattle.table_build.specs.Regs as registrations
use Rattle.table_build.specs.Events as tracker
use Rattle.table_build.specs.Years.{years_of}

-- these rows, registrations and events with their years
abbrev pub with_years : List Row → List EventRow → List RegRow → Listed
with_years rows events regs = record { rows = rows; events = events; regs = regs; years = years_of rows regs events }

-- the rows of the keys that writes name, by what each key holds
abbrev pub listed_by : Records → Facts → List Write → Listed
listed_by r facts writes =
    with_years (values.rows_of r facts (values_named writes)) (tracker.events_of r facts (events_named writes))
    (registrations.regs_of r facts (regs_named writes))

-- the rows, the registrations and the events that these writes leave, under these metadata
unfoldable pub listed_in : Records → List Write → Listed
listed_in r writes = listed_by r (facts_in writes) writes
