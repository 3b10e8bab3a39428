-- How a data value is judged.
use Rattle.std.specs.Prelude.{ℕ, Bool, true, false, ◌&&◌, ◌||◌, ◌==◌, not, cond, List, [], ◌∷◌, ◌++◌, length, slice_get, Option, Some, None, is_some}
use Rattle.std.specs.Prelude.{option_and_then, unwrap_or, ℤ, pos}
use Rattle.std.specs.Option.{option_map_or, option_or, is_none}
use Rattle.std.specs.Ordering.{int_eq}
use Rattle.dh_base.specs.declared.codes.Code.{Code}
use Rattle.dh_base.specs.declared.codes.Code.TheVariants.{C1, C2, C3, C4, C5, C6, C7, C11, C12, C13, C14, C15}
use Rattle.dh_base.specs.declared.plain.AggType.{AggType}
use Rattle.dh_base.specs.declared.plain.AggType.TheVariants as agg
use Rattle.dh_periods.specs.declared.name.PeriodName.{PeriodName}
use Rattle.dh_changes.specs.declared.keys.ValueKey.{ValueKey}
use Rattle.dh_changes.specs.declared.change.Write.TheVariants as write
use Rattle.dh_metadata.specs.declared.held.Records.{Records}
use Rattle.dh_metadata.specs.declared.kind.Kind.TheVariants.{OrganisationUnit, DataElement}
use Rattle.dh_metadata.specs.declared.records.DataSet.{DataSet}
use Rattle.dh_metadata.specs.declared.records.Element.{Element}
use Rattle.dh_metadata.specs.declared.records.OptionCombo.{OptionCombo}
use Rattle.dh_metadata.specs.declared.records.Unit.{Unit}
use Rattle.dh_changes.specs.Facts.{Facts}
use Rattle.dh_changes.specs.declared.outcome.Who.{Who}
use Rattle.dh_changes.specs.declared.outcome.ImportStrategy.{ImportStrategy}
use Rattle.dh_changes.specs.declared.outcome.ImportStrategy.TheVariants as strategy
use Rattle.dh_records.specs.Approved.{approved_of}
use Rattle.dh_records.specs.Values.{fits, is_numeric, number_of}
use Rattle.import_forms.specs.declared.set.SetValue.{SetValue}
use Rattle.import_forms.specs.declared.set.ValueSet.{ValueSet}
use Rattle.value_import.specs.declared.place.ValuePlace.{ValuePlace}
use Rattle.value_import.specs.declared.place.ValueNames.{ValueNames}
use Rattle.value_import.specs.declared.judged.Judged.{Judged}
use Rattle.value_import.specs.declared.judged.Judged.TheVariants as judged
use Rattle.value_import.specs.Names.{object_named, period_named, candidates, chosen_set, chosen_combo}
use Rattle.value_import.specs.Rules.{Condition, first_of, of_user, place_conditions, is_future, is_expired}

-- ---- what it names; a value's own text goes before that of the set

unfoldable pub element_combo : Records → ℕ → ℕ
element_combo r element = option_map_or (λ (found : Element). found.category_combo) (slice_get r.data_elements element) 0

unfoldable pub set_combo : Records → ℕ → ℕ
set_combo r set = option_map_or (λ (found : DataSet). found.category_combo) (slice_get r.data_sets set) 0

-- there is a data set to which a value of the element may belong
unfoldable pub has_candidate : Records → Option (List ℕ) → ℕ → Bool
has_candidate r name element = not (length (candidates r name element) == 0)

-- the set of a value of this element in this period
unfoldable pub set_of : Records → Option (List ℕ) → Option ℕ → Option PeriodName → Option ℕ
set_of r name element period = option_and_then (λ e. option_and_then (λ p. chosen_set r name e p) period) element

-- the option combination that is named, or the only one, of the element's category combination
unfoldable pub combo_of : Records → Option (List ℕ) → Option ℕ → Option ℕ
combo_of r name element = option_and_then (λ e. chosen_combo r name (element_combo r e)) element

-- the same of the set's
unfoldable pub attribute_of : Records → Option (List ℕ) → Option ℕ → Option ℕ
attribute_of r name set = option_and_then (λ s. chosen_combo r name (set_combo r s)) set

unfoldable pub names_of : Records → ValueSet → SetValue → ValueNames
names_of r set value =
    let element = object_named r DataElement value.element in
    let period = period_named (option_or value.period set.period) in
    let chosen = set_of r set.data_set element period in
    record {
      element = element;
      unit = object_named r OrganisationUnit (option_or value.unit set.unit);
      period = period;
      has_candidate = option_map_or (has_candidate r set.data_set) element false;
      set = chosen;
      combo = combo_of r value.combo element;
      attribute = attribute_of r (option_or value.attribute set.attribute) chosen;
    }

-- no such element; no such unit; not a period; no data set; none for periods of the type; the option combination isn't of the element's
-- category combination, or none is named and there isn't only one; the same of the attribute option combination and the set
abbrev pub name_conditions : ValueNames → List Condition
name_conditions names =
    (C1, is_none names.element)
    ∷ (C2, is_none names.unit)
    ∷ (C3, is_none names.period)
    ∷ (C4, not names.has_candidate)
    ∷ (C5, is_none names.set)
    ∷ (C6, is_none names.combo)
    ∷ (C7, is_none names.attribute)
    ∷ []

-- where a value belongs, if all that it names is there
abbrev pub place_of : ValueNames → Option ValuePlace
place_of names =
    option_and_then (λ element.
    option_and_then (λ unit.
    option_and_then (λ period.
    option_and_then (λ set.
    option_and_then (λ combo.
    option_and_then (λ attribute.
    Some (record { element = element; combo = combo; at = record { unit = unit; period = period; set = set; attribute = attribute } }))
    names.attribute) names.combo) names.set) names.period) names.unit) names.element

-- ---- the key

unfoldable pub unit_id : Records → ℕ → List ℕ
unit_id r unit = option_map_or (λ (found : Unit). found.id) (slice_get r.organisation_units unit) []

unfoldable pub option_combo_id : Records → ℕ → List ℕ
option_combo_id r option_combo = option_map_or (λ (found : OptionCombo). found.id) (slice_get r.category_option_combos option_combo) []

unfoldable pub element_id : Records → ℕ → List ℕ
element_id r element = option_map_or (λ (found : Element). found.id) (slice_get r.data_elements element) []

unfoldable pub key_of : Records → ValuePlace → ValueKey
key_of r place = record {
  element = element_id r place.element;
  period = place.at.period;
  unit = unit_id r place.at.unit;
  combo = option_combo_id r place.combo;
  attribute = option_combo_id r place.at.attribute;
}

-- ---- the value

abbrev pub is_delete_all : ImportStrategy → Bool
is_delete_all strategy.Create = false
is_delete_all strategy.Update = false
is_delete_all strategy.CreateAndUpdate = false
is_delete_all strategy.Delete = true

-- the value is to be taken away: under DELETE each, else where it says so
unfoldable pub is_delete : ImportStrategy → SetValue → Bool
is_delete chosen value = is_delete_all chosen || value.deleted

-- there is a text, and it fits the element's type
unfoldable pub has_value : Records → ℕ → Option (List ℕ) → Bool
has_value r element text =
    option_map_or (λ (found : Element). option_map_or (λ own. fits found.value_type own) text false) (slice_get r.data_elements element) false

abbrev pub is_summed : AggType → Bool
is_summed agg.Sum = true
is_summed kind = false

-- the number 0 of a numeric type
unfoldable pub is_zero : Element → List ℕ → Bool
is_zero element text = is_numeric element.value_type && option_map_or (λ number. int_eq number (pos 0)) (number_of element.value_type text) false

-- a zero that says nothing: of an element that is summed and whose zeros aren't significant
unfoldable pub is_idle_zero : Records → ℕ → List ℕ → Bool
is_idle_zero r element text =
    option_map_or (λ (found : Element). is_summed found.aggregation_type && (not found.zero_is_significant && is_zero found text))
    (slice_get r.data_elements element) false

abbrev pub is_create : ImportStrategy → Bool
is_create strategy.Create = true
is_create strategy.Update = false
is_create strategy.CreateAndUpdate = false
is_create strategy.Delete = false

abbrev pub is_update : ImportStrategy → Bool
is_update strategy.Create = false
is_update strategy.Update = true
is_update strategy.CreateAndUpdate = false
is_update strategy.Delete = false

-- CREATE and the key holds a value, or UPDATE or a delete and it holds none
unfoldable pub is_misplaced : ImportStrategy → Bool → Bool → Bool
is_misplaced chosen deletes held = (is_create chosen && held) || ((is_update chosen || deletes) && not held)

-- the values of the key are approved
unfoldable pub is_approved : Facts → Records → ValuePlace → Bool
is_approved facts r place = is_some (approved_of facts r place.element place.at.unit place.at.period (option_combo_id r place.at.attribute))

-- not a delete and no value that fits; too far in the future; expired; approved; against the strategy
unfoldable pub value_conditions : Facts → Records → Who → ℤ → ImportStrategy → Bool → ValuePlace → SetValue → List Condition
value_conditions facts r who today chosen held place value =
    (C11, not (is_delete chosen value) && not (has_value r place.element value.value))
    ∷ (C12, of_user (λ user. is_future r today place.at) who)
    ∷ (C13, of_user (λ user. is_expired r today place.at user) who)
    ∷ (C14, of_user (λ user. is_approved facts r place) who)
    ∷ (C15, is_misplaced chosen (is_delete chosen value) held)
    ∷ []

-- all conditions on a value in its place, whose key holds a value or doesn't
abbrev pub placed_conditions : Facts → Records → Who → ℤ → ImportStrategy → Bool → ValuePlace → SetValue → List Condition
placed_conditions facts r who today chosen held place value =
    place_conditions facts r who place.at ++ value_conditions facts r who today chosen held place value

-- all conditions on a value in their order: those on what it names first, and where all of it is there, the others
abbrev pub conditions : Facts → Records → Who → ℤ → ValueSet → (ValueKey → Bool) → SetValue → List Condition
conditions facts r who today set holds value =
    name_conditions (names_of r set value)
    ++ option_map_or (λ place. placed_conditions facts r who today set.params.strategy (holds (key_of r place)) place value) (place_of (names_of r set value))
    []

-- ---- what it comes to

-- a text that is put under a key
abbrev pub stored : ValueKey → Bool → List ℕ → Judged
stored key true text = judged.Updated (write.ValueSet key text)
stored key false text = judged.Imported (write.ValueSet key text)

-- an idle zero clears a key that holds a value, and else is ignored
abbrev pub zeroed : ValueKey → Bool → Judged
zeroed key true = judged.Deleted (write.ValueCleared key)
zeroed key false = judged.Ignored

-- a delete clears the key; an idle zero says nothing; else the value is set
unfoldable pub accepted : Records → ImportStrategy → ValueKey → Bool → ℕ → SetValue → Judged
accepted r chosen key held element value =
    cond (is_delete chosen value) (judged.Deleted (write.ValueCleared key))
    (cond (is_idle_zero r element (unwrap_or value.value [])) (zeroed key held) (stored key held (unwrap_or value.value [])))

-- the first condition that holds is the value's conflict; a value without one is taken
abbrev pub judged_by : Option Code → Judged → Judged
judged_by (Some code) taken = judged.Refused code
judged_by None taken = taken

unfoldable pub judged_value : Facts → Records → Who → ℤ → ValueSet → (ValueKey → Bool) → SetValue → Judged
judged_value facts r who today set holds value =
    judged_by (first_of (conditions facts r who today set holds value))
    (option_map_or (λ (place : ValuePlace). accepted r set.params.strategy (key_of r place) (holds (key_of r place)) place.element value)
    (place_of (names_of r set value)) judged.Ignored)
