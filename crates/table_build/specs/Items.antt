-- The values of tracker objects by the number of what they are of.
use Rattle.std.specs.Prelude.{ℕ, List, Option, Some, None, option_map, option_and_then, cond, slice_get}
use Rattle.std.specs.List.{filter_map}
use Rattle.dh_periods.specs.Civil.{civil_of}
use Rattle.dh_metadata.specs.declared.held.Records.{Records}
use Rattle.dh_metadata.specs.declared.names.ValueType.{ValueType}
use Rattle.dh_metadata.specs.declared.names.ValueType.TheVariants as value_type
use Rattle.dh_metadata.specs.declared.records.Element.{Element}
use Rattle.dh_metadata.specs.declared.records.Attribute.{Attribute}
use Rattle.dh_metadata.specs.declared.kind.Kind.TheVariants.{DataElement, TrackedEntityAttribute}
use Rattle.dh_metadata.specs.Objects.{find_of}
use Rattle.dh_records.specs.Values.{number_of, fits}
use Rattle.table_rows.specs.declared.event.ItemValue.{ItemValue}
use Rattle.table_rows.specs.declared.event.ItemValue.TheVariants.{Number, Day, Plain}

unfoldable pub number_item : ValueType → List ℕ → Option ItemValue
number_item kind text = option_map Number (number_of kind text)

unfoldable pub day_item : List ℕ → Option ItemValue
day_item text = option_map Day (civil_of text)

unfoldable pub text_item : List ℕ → Option ItemValue
text_item text = cond (fits value_type.Text text) (Some Plain) None

-- a text as a value of a type, where it is one
unfoldable pub item_of : ValueType → List ℕ → Option ItemValue
item_of value_type.Date text = day_item text
item_of value_type.Text text = text_item text
item_of kind text = number_item kind text

abbrev pub numbered : ℕ → ItemValue → ℕ × ItemValue
numbered number value = (number, value)

-- the value of a data element, where that stands in the metadata and the text is a value of its type

unfoldable pub element_item : Records → List ℕ → ℕ → Option ItemValue
element_item r text element = option_and_then (λ (found : Element). item_of found.value_type text) (slice_get r.data_elements element)

unfoldable pub element_value : Records → List ℕ × List ℕ → Option (ℕ × ItemValue)
element_value r pair = option_and_then (λ element. option_map (numbered element) (element_item r pair.1 element)) (find_of r DataElement pair.0)

unfoldable pub element_values : Records → List (List ℕ × List ℕ) → List (ℕ × ItemValue)
element_values r pairs = filter_map (element_value r) pairs

-- the value of an attribute, likewise

unfoldable pub attribute_item : Records → List ℕ → ℕ → Option ItemValue
attribute_item r text attribute = option_and_then (λ (found : Attribute). item_of found.value_type text) (slice_get r.tracked_entity_attributes attribute)

unfoldable pub attribute_value : Records → List ℕ × List ℕ → Option (ℕ × ItemValue)
attribute_value r pair =
    option_and_then (λ attribute. option_map (numbered attribute) (attribute_item r pair.1 attribute)) (find_of r TrackedEntityAttribute pair.0)

unfoldable pub attribute_values : Records → List (List ℕ × List ℕ) → List (ℕ × ItemValue)
attribute_values r pairs = filter_map (attribute_value r) pairs
