-- How a completion is judged.
use Rattle.std.specs.Prelude.{ℕ, Bool, true, false, ◌&&◌, not, cond, List, [], ◌∷◌, ◌++◌, Option, Some, is_some, option_and_then, unwrap_or, slice_get, ℤ, pos}
use Rattle.std.specs.Option.{option_map_or, is_none}
use Rattle.dh_base.specs.declared.codes.Code.TheVariants.{C2, C3, C4, C5, C7, C11, C15}
use Rattle.dh_periods.specs.declared.name.PeriodName.{PeriodName}
use Rattle.dh_changes.specs.declared.keys.RegKey.{RegKey}
use Rattle.dh_changes.specs.declared.change.Write.TheVariants as write
use Rattle.dh_metadata.specs.declared.held.Records.{Records}
use Rattle.dh_metadata.specs.declared.kind.Kind.TheVariants.{OrganisationUnit, DataSet}
use Rattle.dh_metadata.specs.declared.records.DataSet as sets
use Rattle.dh_changes.specs.Facts.{Facts}
use Rattle.dh_changes.specs.declared.outcome.Who.{Who}
use Rattle.import_forms.specs.declared.completion.Completion.{Completion}
use Rattle.import_forms.specs.declared.set.ValueSet.{ValueSet}
use Rattle.value_import.specs.declared.place.Place.{Place}
use Rattle.value_import.specs.declared.place.RegNames.{RegNames}
use Rattle.value_import.specs.declared.judged.Judged.{Judged}
use Rattle.value_import.specs.declared.judged.Judged.TheVariants as judged
use Rattle.value_import.specs.Names.{object_named, period_named, if_so, has_type}
use Rattle.value_import.specs.Rules.{Condition, first_of, place_conditions}
use Rattle.value_import.specs.Dates.{day_told}
use Rattle.value_import.specs.Values.{unit_id, option_combo_id, attribute_of, judged_by}

-- ---- what it names

-- the set, if its periods have the type
unfoldable pub typed_set : Records → Option ℕ → Option PeriodName → Option ℕ
typed_set r set period = option_and_then (λ (p : PeriodName). if_so (has_type r p.kind) set) period

unfoldable pub reg_names_of : Records → Completion → RegNames
reg_names_of r asked =
    let set = object_named r DataSet asked.data_set in
    let period = period_named asked.period in
    let typed = typed_set r set period in
    record {
      unit = object_named r OrganisationUnit asked.unit;
      period = period;
      is_set = is_some set;
      set = typed;
      attribute = attribute_of r asked.attribute typed;
    }

-- no such unit; not a period; no such data set; its periods are of another type; the attribute option combination isn't of the set's
-- category combination, or none is named and there isn't only one
abbrev pub reg_name_conditions : RegNames → List Condition
reg_name_conditions names =
    (C2, is_none names.unit)
    ∷ (C3, is_none names.period)
    ∷ (C4, not names.is_set)
    ∷ (C5, is_none names.set)
    ∷ (C7, is_none names.attribute)
    ∷ []

-- where a completion belongs, if all that it names is there
abbrev pub reg_place_of : RegNames → Option Place
reg_place_of names =
    option_and_then (λ unit.
    option_and_then (λ period.
    option_and_then (λ set.
    option_and_then (λ attribute.
    Some (record { unit = unit; period = period; set = set; attribute = attribute }))
    names.attribute) names.set) names.period) names.unit

-- ---- the key

abbrev pub set_id : Records → ℕ → List ℕ
set_id r set = option_map_or (λ (found : sets.DataSet). found.id) (slice_get r.data_sets set) []

unfoldable pub reg_key_of : Records → Place → RegKey
reg_key_of r place = record {
  set = set_id r place.set;
  period = place.period;
  unit = unit_id r place.unit;
  attribute = option_combo_id r place.attribute;
}

-- ---- the conditions

-- not a date; nothing is there to be taken away
unfoldable pub reg_conditions : Option ℤ → Bool → Bool → List Condition
reg_conditions day done held =
    (C11, is_none day)
    ∷ (C15, not done && not held)
    ∷ []

-- all conditions on a completion in its place, which is there or isn't
abbrev pub placed_reg_conditions : Facts → Records → Who → Option ℤ → Bool → Bool → Place → List Condition
placed_reg_conditions facts r who day done held place = place_conditions facts r who place ++ reg_conditions day done held

-- all conditions on a completion in their order
abbrev pub completion_conditions : Facts → Records → Who → ℤ → (RegKey → Bool) → Completion → List Condition
completion_conditions facts r who today holds asked =
    reg_name_conditions (reg_names_of r asked)
    ++ option_map_or (λ place. placed_reg_conditions facts r who (day_told today asked.date) asked.done (holds (reg_key_of r place)) place)
    (reg_place_of (reg_names_of r asked)) []

-- ---- what it comes to

abbrev pub completed : RegKey → ℤ → Bool → Judged
completed key day true = judged.Updated (write.Complete key day)
completed key day false = judged.Imported (write.Complete key day)

-- a set is completed on a day, or its completion is taken away
abbrev pub registered : RegKey → ℤ → Bool → Bool → Judged
registered key day done held = cond done (completed key day held) (judged.Deleted (write.Uncomplete key))

unfoldable pub judged_completion : Facts → Records → Who → ℤ → (RegKey → Bool) → Completion → Judged
judged_completion facts r who today holds asked =
    judged_by (first_of (completion_conditions facts r who today holds asked))
    (option_map_or (λ (place : Place). registered (reg_key_of r place) (unwrap_or (day_told today asked.date) (pos 0)) asked.done (holds (reg_key_of r place)))
    (reg_place_of (reg_names_of r asked)) judged.Ignored)

-- the completion that the `completeDate` of a set asks for
abbrev pub completion_in : ValueSet → Completion
completion_in set = record {
  data_set = set.data_set;
  period = set.period;
  unit = set.unit;
  attribute = set.attribute;
  date = set.complete_date;
  done = true;
}

-- it counts as no value
abbrev pub uncounted : Judged → Judged
uncounted (judged.Refused code) = judged.Refused code
uncounted judged.Ignored = judged.Ignored
uncounted (judged.Imported write) = judged.Uncounted write
uncounted (judged.Updated write) = judged.Uncounted write
uncounted (judged.Deleted write) = judged.Uncounted write
uncounted (judged.Uncounted write) = judged.Uncounted write
