-- Elements and attributes whose values are days.
use Rattle.std.specs.Prelude.{ℕ, Bool, true, false, cond, List, [], ◌∷◌, ◌++◌}
use Rattle.dh_metadata.specs.declared.names.ValueType.{ValueType}
use Rattle.dh_metadata.specs.declared.names.ValueType.TheVariants.{Date}
use Rattle.dh_metadata.specs.declared.parts.MetaParts.{MetaParts}
use Rattle.dh_metadata.specs.declared.raw.RawElement.{RawElement}
use Rattle.dh_metadata.specs.declared.raw.RawAttribute.{RawAttribute}

abbrev pub is_date : ValueType → Bool
is_date Date = true
is_date _ = false

abbrev pub day_elements : List RawElement → List (List ℕ)
day_elements [] = []
day_elements (element ∷ elements) = cond (is_date element.value_type) (element.id ∷ day_elements elements) (day_elements elements)

abbrev pub day_attributes : List RawAttribute → List (List ℕ)
day_attributes [] = []
day_attributes (attribute ∷ attributes) = cond (is_date attribute.value_type) (attribute.id ∷ day_attributes attributes) (day_attributes attributes)

-- the elements and attributes of value type DATE
abbrev pub days_of : MetaParts → List (List ℕ)
days_of parts = day_elements parts.data_elements ++ day_attributes parts.tracked_entity_attributes
