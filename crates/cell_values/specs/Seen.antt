-- Who sees what.
use Rattle.std.specs.Prelude.{ℕ, Bool, false, ◌&&◌, List, map, slice_get, IsPermutation}
use Rattle.std.specs.List.{filter, list_all}
use Rattle.std.specs.Option.{option_map_or}
use Rattle.dh_base.specs.declared.plain.Need.{Need}
use Rattle.dh_base.specs.declared.plain.Need.TheVariants.{All}
use Rattle.dh_sharing.specs.declared.access.Right.TheVariants.{Read, DataRead}
use Rattle.dh_metadata.specs.declared.held.Records.{Records}
use Rattle.dh_metadata.specs.declared.kind.Kind.TheVariants as kind
use Rattle.dh_metadata.specs.declared.records.OptionCombo.{OptionCombo}
use Rattle.dh_metadata.specs.Workflows.{workflow_of}
use Rattle.dh_metadata.specs.Approval.{unit_rows, need_of}
use Rattle.dh_metadata.specs.Users.{may_of, view_units_of}
use Rattle.table_rows.specs.declared.event.EventRow.{EventRow}
use Rattle.table_rows.specs.declared.event.RegRow.{RegRow}
use Rattle.table_rows.specs.declared.row.Row.{Row}
use Rattle.table_rows.specs.Rows.{meets}
use Rattle.table_rows.specs.Store.{Contents}
use Rattle.table_rows.specs.declared.sample.Sample.{Sample}
use Rattle.table_rows.specs.RowSamples.{sample_of}
use Rattle.cell_values.specs.Places.{is_at_some}

-- the order is that of a unit under a view unit of the user
unfoldable pub is_viewed : Records → ℕ → ℕ → Bool
is_viewed r user order = is_at_some (unit_rows r) false (view_units_of r user) order

-- the user has the right to read the data of each of these category options
abbrev pub sees_options : Records → ℕ → List ℕ → Bool
sees_options r user options = list_all (λ option. may_of r user DataRead kind.CategoryOption option) options

-- the same for the options of an attribute option combination
unfoldable pub sees_attribute : Records → ℕ → ℕ → Bool
sees_attribute r user attribute =
    option_map_or (λ (combo : OptionCombo). sees_options r user combo.category_options) (slice_get r.category_option_combos attribute) false

-- what the user has to see approved of an element: all is seen where it has no workflow
unfoldable pub need_for : Records → ℕ → ℕ → Need
need_for r user element = option_map_or (λ workflow. need_of r user workflow) (workflow_of r.data_sets element) All

-- a value is seen where its unit is under a view unit, the user may read its element and the data of each option of its
-- attribute option combination, and its approved position meets the need in the workflow of its element
unfoldable pub is_seen : Records → ℕ → Row → Bool
is_seen r user row =
    is_viewed r user row.order
    && (may_of r user Read kind.DataElement row.element && (sees_attribute r user row.attribute && meets (need_for r user row.element) row.approved))

-- the samples of the values that the user sees; they tell no approved position
abbrev pub seen : Records → ℕ → List Row → List Sample
seen r user rows = map sample_of (filter (is_seen r user) rows)

-- an event is seen where its unit is under a view unit and the user may read the data of its program
unfoldable pub is_event_seen : Records → ℕ → EventRow → Bool
is_event_seen r user event = is_viewed r user event.order && may_of r user DataRead kind.Program event.program

abbrev pub seen_events : Records → ℕ → List EventRow → List EventRow
seen_events r user events = filter (is_event_seen r user) events

-- a registration is seen where its unit is under a view unit, and the user may read its data set and the data of each option
-- of its attribute option combination
unfoldable pub is_reg_seen : Records → ℕ → RegRow → Bool
is_reg_seen r user reg =
    is_viewed r user reg.order && (may_of r user Read kind.DataSet reg.set && sees_attribute r user reg.attribute)

abbrev pub seen_regs : Records → ℕ → List RegRow → List RegRow
seen_regs r user regs = filter (is_reg_seen r user) regs

-- ---- all that a user sees

pub record SeenRecords : Type 0 where
  pub samples : List Sample
  pub events : List EventRow
  pub regs : List RegRow

abbrev pub contents_of : List Row → List EventRow → List RegRow → Contents
contents_of rows events regs = record { rows = rows; events = events; regs = regs }

-- what the user sees of what a store holds
unfoldable pub seen_of : Records → ℕ → Contents → SeenRecords
seen_of r user held = record { samples = seen r user held.rows; events = seen_events r user held.events; regs = seen_regs r user held.regs }

-- the same is seen, in whatever order it stands
pub record SameSeen (one other : SeenRecords) : Type 0 where
  pub samples : IsPermutation one.samples other.samples
  pub events : IsPermutation one.events other.events
  pub regs : IsPermutation one.regs other.regs
