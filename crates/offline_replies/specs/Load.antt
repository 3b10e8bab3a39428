-- The values of a bundle, loaded as one change of an empty log.
use Rattle.std.specs.Prelude.{ℤ, false, List, [], None, Result}
use Rattle.dh_base.specs.declared.codes.Refusal.{Refusal}
use Rattle.dh_changes.specs.declared.change.Change.{Change}
use Rattle.dh_metadata.specs.declared.held.Records.{Records}
use Rattle.dh_changes.specs.declared.outcome.ImportStrategy.TheVariants.{CreateAndUpdate}
use Rattle.import_forms.specs.declared.set.SetValue.{SetValue}
use Rattle.import_forms.specs.declared.set.ValueSet.{ValueSet}
use Rattle.engine.specs.Requests.{Asked}
use Rattle.engine.specs.declared.request.ChangeRequest.TheVariants.{Values}
use Rattle.engine.specs.declared.machine.Report.{Report}
use Rattle.engine.specs.Machine.{judged_in, log_by}
use Rattle.engine.specs.InMemory.{largest, loading, outcome_of}

-- the set of a bundle's values: they may create and update
unfoldable pub set_of : List SetValue → ValueSet
set_of values = record {
  params = record { strategy = CreateAndUpdate; dry = false };
  data_set = None;
  complete_date = None;
  period = None;
  unit = None;
  attribute = None;
  values = values;
}

-- the loader asks for them
abbrev pub asked_for : ℤ → List SetValue → Asked
asked_for moment values = loading moment (Values (set_of values))

-- the report on the change, or its refusal
abbrev pub loaded : Records → ℤ → List SetValue → Result Report Refusal
loaded r moment values = outcome_of r largest [] (asked_for moment values)

-- the log that it leaves
abbrev pub log_of : Records → ℤ → List SetValue → List Change
log_of r moment values = log_by r [] (asked_for moment values) (judged_in r [] (asked_for moment values))
