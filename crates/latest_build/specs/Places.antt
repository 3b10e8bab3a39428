-- The keys of a log as keys of tables.
use Rattle.std.specs.Prelude.{ℕ, List, Option, option_map, option_and_then}
use Rattle.std.specs.Cmp.Lexicographic.{slice_cmp}
use Rattle.std.specs.List.{filter_map}
use Rattle.std.specs.Ordering.{nat_cmp}
use Rattle.dh_changes.specs.declared.keys.ValueKey.{ValueKey}
use Rattle.dh_changes.specs.declared.keys.RegKey.{RegKey}
use Rattle.org_tree.specs.Units.{order_of}
use Rattle.dh_metadata.specs.declared.held.Records.{Records}
use Rattle.dh_changes.specs.Facts.{Facts}
use Rattle.dh_records.specs.Access.{tree}
use Rattle.table_rows.specs.declared.event.EventRow.{EventRow}
use Rattle.table_rows.specs.Store.{Contents}
use Rattle.table_build.specs.declared.values.ValueObjects.{ValueObjects}
use Rattle.table_build.specs.declared.regs.RegObjects.{RegObjects}
use Rattle.table_build.specs.Ordered.{in_order}
use Rattle.table_build.specs.Values as values
use Rattle.table_build.specs.Regs as registrations
use Rattle.table_build.specs.Events as tracker
use Rattle.table_latest.specs.declared.places.RowPlace.{RowPlace}
use Rattle.table_latest.specs.declared.places.RegPlace.{RegPlace}
use Rattle.table_latest.specs.Keys.{place_cmp, reg_place_cmp}
use Rattle.table_latest.specs.Latest.{Touched}

abbrev pub value_at : Records → Facts → ValueKey → ValueObjects → RowPlace
value_at r facts key objects = record {
  group = record { element = objects.element; combo = objects.combo; attribute = objects.attribute; period = key.period };
  order = order_of (tree facts r) objects.unit;
}

-- the key in tables of a value's key, where its objects stand in the metadata
unfoldable pub value_place : Records → Facts → ValueKey → Option RowPlace
value_place r facts key = option_map (value_at r facts key) (values.objects_of r key)

-- those of keys, ascending, each once
unfoldable pub value_places : Records → Facts → List ValueKey → List RowPlace
value_places r facts keys = in_order place_cmp (λ place. place) (filter_map (value_place r facts) keys)

abbrev pub reg_at : Records → Facts → RegKey → RegObjects → RegPlace
reg_at r facts key objects = record {
  set = objects.set;
  period = key.period;
  order = order_of (tree facts r) objects.unit;
  attribute = objects.attribute;
}

-- likewise of a registration's key

unfoldable pub reg_place : Records → Facts → RegKey → Option RegPlace
reg_place r facts key = option_map (reg_at r facts key) (registrations.objects_of r key)

unfoldable pub reg_places : Records → Facts → List RegKey → List RegPlace
reg_places r facts keys = in_order reg_place_cmp (λ place. place) (filter_map (reg_place r facts) keys)

-- identifiers ascending, each once
unfoldable pub event_ids : List (List ℕ) → List (List ℕ)
event_ids ids = in_order (slice_cmp nat_cmp) (λ id. id) ids

-- the row of an event, if it has one
unfoldable pub event_row : Records → Facts → List ℕ → Option EventRow
event_row r facts id = option_and_then (tracker.event_at r facts) (tracker.place_of facts id)

-- the touched keys of some keys of a log, and what these hold

abbrev pub touched_of : Records → Facts → List ValueKey → List (List ℕ) → List RegKey → Touched
touched_of r facts keys ids names = record { rows = value_places r facts keys; events = event_ids ids; regs = reg_places r facts names }

abbrev pub held_by : Records → Facts → List ValueKey → List (List ℕ) → List RegKey → Contents
held_by r facts keys ids names =
    record { rows = values.rows_of r facts keys; events = tracker.events_of r facts ids; regs = registrations.regs_of r facts names }
