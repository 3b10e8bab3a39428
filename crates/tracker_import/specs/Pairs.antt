-- Attributes and data elements with their values.
use Rattle.std.specs.Prelude.{ℕ, Bool, false, ◌&&◌, not, List, [], ◌∷◌, ◌++◌, length, filter, slice_get, Option, option_map, option_and_then, nat_lt, nat_le}
use Rattle.std.specs.Option.{option_map_or, is_some, is_none}
use Rattle.std.specs.List.{list_any, filter_map}
use Rattle.std.specs.BTreeMap.{insert_entry}
use Rattle.std.specs.Cmp.Lexicographic.{slice_cmp}
use Rattle.std.specs.Ordering.{nat_cmp}
use Rattle.dh_records.specs.Values.{fits}
use Rattle.dh_metadata.specs.Members.{has}
use Rattle.dh_metadata.specs.declared.held.Records.{Records}
use Rattle.dh_metadata.specs.declared.kind.Kind.{Kind}
use Rattle.dh_metadata.specs.declared.kind.Kind.TheVariants.{DataElement, TrackedEntityAttribute}
use Rattle.dh_metadata.specs.declared.names.ValueType.{ValueType}
use Rattle.dh_metadata.specs.declared.records.Element as elements
use Rattle.dh_metadata.specs.declared.records.Attribute as attributes
use Rattle.import_forms.specs.declared.pair.Pair.{Pair}
use Rattle.dh_metadata.specs.Objects.{find_of}
use Rattle.value_import.specs.Names.{if_so}
use Rattle.tracker_import.specs.declared.pairs.TheConstants.{MOST_ITEMS, MOST_BYTES}
use Rattle.tracker_import.specs.declared.pairs.ItemKind.{ItemKind}
use Rattle.tracker_import.specs.declared.pairs.ItemKind.TheVariants as item
use Rattle.tracker_import.specs.Rules.{id_in}

abbrev pub kind_of : ItemKind → Kind
kind_of item.Attribute = TrackedEntityAttribute
kind_of item.Element = DataElement

-- the attribute or element with an identifier, which is there and one of as many as can be written
unfoldable pub item_of : Records → ItemKind → List ℕ → Option ℕ
item_of r kind id = if_so (λ number. nat_lt number MOST_ITEMS) (find_of r (kind_of kind) id)

-- the attribute or element that a pair names
unfoldable pub item_named : Records → ItemKind → Pair → Option ℕ
item_named r kind pair = option_and_then (item_of r kind) (id_in pair.item)

-- the value type of an attribute or element
abbrev pub type_of : Records → ItemKind → ℕ → Option ValueType
type_of r item.Attribute n = option_map (λ (found : attributes.Attribute). found.value_type) (slice_get r.tracked_entity_attributes n)
type_of r item.Element n = option_map (λ (found : elements.Element). found.value_type) (slice_get r.data_elements n)

-- one of the pairs names nothing that is there
unfoldable pub has_unknown : Records → ItemKind → List Pair → Bool
has_unknown r kind pairs = list_any (λ pair. is_none (item_named r kind pair)) pairs

-- there is a text, and it fits the type
abbrev pub fits_type : Option ValueType → Option (List ℕ) → Bool
fits_type kind text = option_map_or (λ own. option_map_or (fits own) text false) kind false

-- the value of a pair is a text that fits the type of what the pair names
unfoldable pub is_fit : Records → ItemKind → Pair → Bool
is_fit r kind pair = fits_type (option_and_then (type_of r kind) (item_named r kind pair)) pair.value

unfoldable pub has_unfit : Records → ItemKind → List Pair → Bool
has_unfit r kind pairs = list_any (λ pair. not (is_fit r kind pair)) pairs

-- what the pair names is one of these
unfoldable pub is_among : Records → ItemKind → List ℕ → Pair → Bool
is_among r kind numbers pair = option_map_or (has numbers) (item_named r kind pair) false

-- one of the pairs names something else than these
unfoldable pub has_foreign : Records → ItemKind → List ℕ → List Pair → Bool
has_foreign r kind numbers pairs = list_any (λ pair. not (is_among r kind numbers pair)) pairs

-- ---- what is written

-- an identifier and a text
abbrev pub Told : Type 0
Told = List ℕ × List ℕ

abbrev pub told_by : Pair → Option Told
told_by pair = option_and_then (λ id. option_map (λ text. (id, text)) pair.value) (id_in pair.item)

-- what pairs tell
abbrev pub told : List Pair → List Told
told pairs = filter_map told_by pairs

-- put among others in the order of their identifiers' bytes; of those with one identifier the last stays
abbrev pub put_all : List Told → List Told → List Told
put_all entries [] = entries
put_all entries (t ∷ more) = put_all (insert_entry (slice_cmp nat_cmp) entries t.0 t.1) more

-- in the order of their identifiers' bytes, of each identifier the last
unfoldable pub in_order : List Told → List Told
in_order all = put_all [] all

-- an attribute that stood stays if it is one of the metadata's, and its text has bytes in a change, as each text of a log has
unfoldable pub is_kept : Records → Told → Bool
is_kept r t = is_some (item_of r item.Attribute t.0) && nat_le (length t.1) MOST_BYTES

-- what stood and stays, with what pairs tell
unfoldable pub merged : Records → List Told → List Pair → List Told
merged r old pairs = in_order (filter (is_kept r) old ++ told pairs)
