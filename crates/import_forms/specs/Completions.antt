-- Complete data set registrations.
use Rattle.std.specs.Prelude.{true, List, unwrap_or, codes, Ok}
use Rattle.serde_json.specs.Data.{Data}
use Rattle.json_read.specs.Forms.{Formed, object_of, list_of, field_of}
use Rattle.import_forms.specs.Texts.{text_in, truth_in}
use Rattle.import_forms.specs.declared.completion.Completion.{Completion}

-- the completion that an object stands for
unfoldable pub completion_of : Data → Completion
completion_of json = record {
  data_set = text_in (codes "dataSet") json;
  period = text_in (codes "period") json;
  unit = text_in (codes "organisationUnit") json;
  attribute = text_in (codes "attributeOptionCombo") json;
  date = text_in (codes "date") json;
  done = unwrap_or (truth_in (codes "completed") json) true;
}

abbrev pub completion_form : Data → Formed Completion
completion_form = object_of (λ json. Ok (completion_of json))

-- the completions of an object
unfoldable pub completions_of : Data → Formed (List Completion)
completions_of = object_of (field_of (codes "completeDataSetRegistrations") (list_of completion_form))
