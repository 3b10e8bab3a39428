-- Dimensions and names.
use Rattle.std.specs.Prelude.{ℕ, ◌<◌, List, [], ◌∷◌, length, map, slice_get, Option, Some, None, codes}
use Rattle.std.specs.Option.{option_map_or}
use Rattle.std.specs.Str.Lossy.{utf8_lossy}
use Rattle.serde_json.specs.Data.{Data, array, object, Members, member, no_members, put}
use Rattle.serde_json.specs.View.{items_of}
use Rattle.dh_periods.specs.declared.name.PeriodName.{PeriodName}
use Rattle.dh_periods.specs.Texts.{period_text}
use Rattle.dh_metadata.specs.declared.held.Records.{Records}
use Rattle.dh_metadata.specs.declared.kind.Kind.{Kind}
use Rattle.dh_metadata.specs.declared.kind.Kind.TheVariants as kind
use Rattle.dh_metadata.specs.declared.records.Unit.{Unit}
use Rattle.dh_metadata.specs.declared.records.Element.{Element}
use Rattle.dh_metadata.specs.declared.records.Indicator.{Indicator}
use Rattle.dh_metadata.specs.declared.records.ProgramIndicator.{ProgramIndicator}
use Rattle.dh_metadata.specs.Linked.{AreBelow}
use Rattle.dh_metadata.specs.Objects.{count_of}
use Rattle.query_lang.specs.declared.plain.Dx.{Dx}
use Rattle.query_lang.specs.declared.plain.DxKind.{DxKind}
use Rattle.query_lang.specs.declared.plain.DxKind.TheVariants as dx_kind
use Rattle.query_lang.specs.declared.plain.Query.{Query}
use Rattle.query_answer.specs.Texts.{text_of_bytes}
use Rattle.query_answer.specs.BodyRows.{unit_id}

-- the kind of the object that a dx item names
abbrev pub kind_of : DxKind → Kind
kind_of dx_kind.Element = kind.DataElement
kind_of dx_kind.Indicator = kind.Indicator
kind_of dx_kind.ProgramIndicator = kind.ProgramIndicator
kind_of (dx_kind.Rate rate) = kind.DataSet

abbrev pub IsThere : Records → Dx → Type 0
IsThere r dx = dx.number < count_of r (kind_of dx.kind)

abbrev pub AreUnits : Records → List ℕ → Type 0
AreUnits r units = AreBelow (length r.organisation_units) units

-- the name of the object of a kind, and the item's text where the kind's objects aren't named
abbrev pub named_by : Records → DxKind → ℕ → List ℕ → List ℕ
named_by r dx_kind.Element n text = option_map_or (λ (found : Element). found.name) (slice_get r.data_elements n) []
named_by r dx_kind.Indicator n text = option_map_or (λ (found : Indicator). found.name) (slice_get r.indicators n) []
named_by r dx_kind.ProgramIndicator n text = option_map_or (λ (found : ProgramIndicator). found.name) (slice_get r.program_indicators n) []
named_by r (dx_kind.Rate rate) n text = text

-- an operand's name is its text
abbrev pub name_with : Records → Dx → Option ℕ → List ℕ
name_with r dx None = named_by r dx.kind dx.number dx.text
name_with r dx (Some part) = dx.text

abbrev pub dx_name : Records → Dx → List ℕ
dx_name r dx = name_with r dx dx.part

abbrev pub unit_name : Records → ℕ → List ℕ
unit_name r unit = option_map_or (λ (found : Unit). found.name) (slice_get r.organisation_units unit) []

-- identifiers, each with its name
abbrev pub dx_named : Records → List Dx → List (List ℕ × List ℕ)
dx_named r dx = map (λ (each : Dx). (each.text, dx_name r each)) dx

abbrev pub period_named : List PeriodName → List (List ℕ × List ℕ)
period_named periods = map (λ period. (period_text period, period_text period)) periods

abbrev pub unit_named : Records → List ℕ → List (List ℕ × List ℕ)
unit_named r units = map (λ unit. (unit_id r unit, unit_name r unit)) units

abbrev pub ids_of : List (List ℕ × List ℕ) → List Data
ids_of named = map (λ each. text_of_bytes each.0) named

unfoldable pub name_of : List ℕ → Data
name_of name = object (member (codes "name") (text_of_bytes name) no_members)

-- a name under its identifier, in the place of one that is there
abbrev pub put_name : List ℕ × List ℕ → Members → Members
put_name named members = put (utf8_lossy named.0) (name_of named.1) members

abbrev pub put_names : List (List ℕ × List ℕ) → Members → Members
put_names [] members = members
put_names (each ∷ more) members = put_names more (put_name each members)

unfoldable pub dimensions_of : List Data → List Data → List Data → Data
dimensions_of dx units periods = object
    (member (codes "dx") (array (items_of dx))
    (member (codes "ou") (array (items_of units))
    (member (codes "pe") (array (items_of periods)) no_members)))

-- the names of dx items, periods and units; where one identifier is two of these, the later counts
abbrev pub names_of : Records → Query → Members
names_of r query =
    put_names (unit_named r query.units.items) (put_names (period_named query.periods.items) (put_names (dx_named r query.dx) no_members))

-- the dimensions, filters too, and the names
unfoldable pub meta_of : Records → Query → Data
meta_of r query = object
    (member (codes "dimensions")
    (dimensions_of (ids_of (dx_named r query.dx)) (ids_of (unit_named r query.units.items)) (ids_of (period_named query.periods.items)))
    (member (codes "items") (object (names_of r query)) no_members))
