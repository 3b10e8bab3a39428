-- The rows of data values.
use Rattle.std.specs.Prelude.{ℕ, ℤ, List, Option, option_map, option_and_then, slice_get}
use Rattle.std.specs.List.{filter_map}
use Rattle.dh_changes.specs.declared.keys.ValueKey.{ValueKey}
use Rattle.org_tree.specs.Units.{order_of}
use Rattle.dh_metadata.specs.declared.held.Records.{Records}
use Rattle.dh_metadata.specs.declared.records.Element.{Element}
use Rattle.dh_metadata.specs.declared.kind.Kind.TheVariants.{DataElement, OrganisationUnit, CategoryOptionCombo}
use Rattle.dh_metadata.specs.Objects.{find_of}
use Rattle.dh_changes.specs.Facts.{Facts}
use Rattle.dh_records.specs.Access.{tree}
use Rattle.dh_records.specs.Approved.{approved_at}
use Rattle.dh_records.specs.Values.{number_of}
use Rattle.table_rows.specs.declared.row.Row.{Row}
use Rattle.table_rows.specs.Rows.{key_of}
use Rattle.table_rows.specs.Order.{key_cmp}
use Rattle.table_build.specs.declared.values.ValueObjects.{ValueObjects}
use Rattle.table_build.specs.Ordered.{in_order}

abbrev pub value_objects : ℕ → ℕ → ℕ → ℕ → ValueObjects
value_objects element unit combo attribute = record { element = element; unit = unit; combo = combo; attribute = attribute }

-- the numbers of the objects that a key names, where all stand in the metadata
unfoldable pub objects_of : Records → ValueKey → Option ValueObjects
objects_of r key =
    option_and_then (λ element. option_and_then (λ unit. option_and_then (λ combo. option_map (λ attribute. value_objects element unit combo attribute)
    (find_of r CategoryOptionCombo key.attribute)) (find_of r CategoryOptionCombo key.combo)) (find_of r OrganisationUnit key.unit))
    (find_of r DataElement key.element)

-- the number of a text as a value of the element; none of a date, a text, or one that doesn't fit the element's value type
unfoldable pub number_at : Records → ℕ → List ℕ → Option ℤ
number_at r element text = option_and_then (λ (found : Element). number_of found.value_type text) (slice_get r.data_elements element)

unfoldable pub row_with : Records → Facts → ValueKey → List ℕ → ValueObjects → Row
row_with r facts key text objects = record {
  element = objects.element;
  combo = objects.combo;
  attribute = objects.attribute;
  period = key.period;
  approved = approved_at facts r key;
  order = order_of (tree facts r) objects.unit;
  micros = number_at r objects.element text;
}

-- the row of a key that holds a text and whose objects stand in the metadata
unfoldable pub row_of : Records → Facts → ValueKey → Option Row
row_of r facts key = option_and_then (λ text. option_map (row_with r facts key text) (objects_of r key)) (facts.value key)

-- the rows of keys, in row order
unfoldable pub rows_of : Records → Facts → List ValueKey → List Row
rows_of r facts keys = in_order key_cmp key_of (filter_map (row_of r facts) keys)
