-- Data value sets: `dataSet`, `completeDate`, `period`, `orgUnit`, `attributeOptionCombo` and the list `dataValues`.
use Rattle.std.specs.Prelude.{ℕ, false, cond, List, [], Option, is_some, unwrap_or, codes, Ok}
use Rattle.serde_json.specs.Data.{Data}
use Rattle.serde_json.specs.Find.{as_null}
use Rattle.json_read.specs.Forms.{Formed, and_then, object_of, list_of, field_or_of}
use Rattle.import_forms.specs.Both.{◌⊗◌}
use Rattle.import_forms.specs.Texts.{text_at, text_in, truth_in, written_in}
use Rattle.import_forms.specs.declared.set.SetParams.{SetParams}
use Rattle.import_forms.specs.declared.set.SetValue.{SetValue}
use Rattle.import_forms.specs.declared.set.SetValues.{SetValues}
use Rattle.import_forms.specs.declared.set.ValueSet.{ValueSet}

-- the value that an object stands for
unfoldable pub value_of : Data → SetValue
value_of json = record {
  element = text_in (codes "dataElement") json;
  combo = text_in (codes "categoryOptionCombo") json;
  attribute = text_in (codes "attributeOptionCombo") json;
  value = written_in (codes "value") json;
  period = text_in (codes "period") json;
  unit = text_in (codes "orgUnit") json;
  deleted = unwrap_or (truth_in (codes "deleted") json) false;
}

abbrev pub value_form : Data → Formed SetValue
value_form = object_of (λ json. Ok (value_of json))

-- a list of values; null stands for none
unfoldable pub values_form : Data → Formed SetValues
values_form json = cond (is_some (as_null json)) (Ok (record { values = [] })) (and_then (list_of value_form json) (λ values. Ok (record { values = values })))

-- `dataSet` and `completeDate`; `period`; `orgUnit` and `attributeOptionCombo`; and the values
abbrev pub SetFields : Type 0
SetFields =
    (Option (List ℕ) × Option (List ℕ)) × (Option (List ℕ) × ((Option (List ℕ) × Option (List ℕ)) × List SetValue))

-- the values of a set, none where the key is absent
unfoldable pub values_at : List ℕ → Data → Formed (List SetValue)
values_at key json = and_then (field_or_of key values_form (record { values = [] }) json) (λ found. Ok found.values)

-- the texts of a set and its values, in their order
unfoldable pub fields_of : Data → Formed SetFields
fields_of json =
    (text_at (codes "dataSet") json ⊗ text_at (codes "completeDate") json)
    ⊗ (text_at (codes "period") json
    ⊗ ((text_at (codes "orgUnit") json ⊗ text_at (codes "attributeOptionCombo") json) ⊗ values_at (codes "dataValues") json))

-- the set that an object stands for
unfoldable pub set_of : SetParams → Data → Formed ValueSet
set_of chosen = object_of (λ json.
    and_then (fields_of json) (λ found.
    Ok (record {
      params = chosen;
      data_set = found.0.0;
      complete_date = found.0.1;
      period = found.1.0;
      unit = found.1.1.0.0;
      attribute = found.1.1.0.1;
      values = found.1.1.1;
    })))
