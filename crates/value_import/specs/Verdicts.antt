-- The verdict on a data value set and on completions.
use Rattle.std.specs.Prelude.{ℕ, ◌+◌, List, [], ◌∷◌, length, ℤ}
use Rattle.std.specs.Option.{option_map_or}
use Rattle.dh_metadata.specs.declared.held.Records.{Records}
use Rattle.dh_changes.specs.Facts.{Facts}
use Rattle.dh_changes.specs.declared.outcome.Verdict.{Verdict}
use Rattle.dh_changes.specs.declared.outcome.Who.{Who}
use Rattle.dh_periods.specs.Moment.{day_of}
use Rattle.import_forms.specs.declared.completion.Completion.{Completion}
use Rattle.import_forms.specs.declared.set.SetValue.{SetValue}
use Rattle.import_forms.specs.declared.set.ValueSet.{ValueSet}
use Rattle.value_import.specs.Values.{judged_value}
use Rattle.value_import.specs.Completions.{judged_completion, completion_in, uncounted}
use Rattle.value_import.specs.Outcomes.{nothing, taken, finished}
use Rattle.value_import.specs.Said.{holds_value, holds_registration}

-- a verdict with the value at an index: it is judged by what holds after the log and the writes accepted so far
unfoldable pub with_value : Facts → Records → Who → ℤ → ValueSet → ℕ → SetValue → Verdict → Verdict
with_value facts r who today set index value v = taken index (judged_value facts r who today set (holds_value facts v.writes) value) v

-- the values one after another, the first at this index
abbrev pub with_values : Facts → Records → Who → ℤ → ValueSet → ℕ → List SetValue → Verdict → Verdict
with_values facts r who today set index [] v = v
with_values facts r who today set index (value ∷ more) v = with_values facts r who today set (index + 1) more (with_value facts r who today set index value v)

-- a `completeDate` adds a completion, whose index is the number of values
unfoldable pub with_date : Facts → Records → Who → ℤ → ValueSet → Verdict → Verdict
with_date facts r who today set v =
    option_map_or (λ date. taken (length set.values) (uncounted (judged_completion facts r who today (holds_registration facts v.writes) (completion_in set)))
    v)
    set.complete_date v

-- the verdict on a data value set
unfoldable pub verdict_of : Facts → Records → Who → ℤ → ValueSet → Verdict
verdict_of facts r who moment set =
    finished set.params.dry (with_date facts r who (day_of moment) set (with_values facts r who (day_of moment) set 0 set.values nothing))

-- a verdict with the completion at an index
unfoldable pub with_completion : Facts → Records → Who → ℤ → ℕ → Completion → Verdict → Verdict
with_completion facts r who today index asked v = taken index (judged_completion facts r who today (holds_registration facts v.writes) asked) v

-- the completions one after another, the first at this index
abbrev pub with_completions : Facts → Records → Who → ℤ → ℕ → List Completion → Verdict → Verdict
with_completions facts r who today index [] v = v
with_completions facts r who today index (asked ∷ more) v =
    with_completions facts r who today (index + 1) more (with_completion facts r who today index asked v)

-- the verdict on completions
unfoldable pub completions_verdict_of : Facts → Records → Who → ℤ → List Completion → Verdict
completions_verdict_of facts r who moment list = with_completions facts r who (day_of moment) 0 list nothing
