-- Samples as data values, and in sets of at most 1,000.
use Rattle.std.specs.Prelude.{ℕ, zero, suc, ◌+◌, ◌-◌, ◌/◌, min, false, List, [], ◌∷◌, None, Some}
use Rattle.std.specs.Fmt.{decimal}
use Rattle.import_forms.specs.declared.set.SetValue.{SetValue}
use Rattle.offline_replies.specs.declared.samples.draws.Sample.{Sample}
use Rattle.offline_replies.specs.Draws.{start, samples, after_samples}
use Rattle.offline_replies.specs.Ids.{element_id, facility_id, month_text}

-- the value that a sample stands for
unfoldable pub value_of : Sample → SetValue
value_of sample = record {
  element = Some element_id;
  combo = None;
  attribute = None;
  value = Some (decimal sample.amount);
  period = Some (month_text sample.month);
  unit = Some (facility_id sample.facility);
  deleted = false;
}

-- so many samples from a state on, 1,000 at a time: the last time what is left
abbrev pub sets_from : ℕ → ℕ → ℕ → List (List Sample)
sets_from zero left x = []
sets_from (suc more) left x = samples (min left 1000) x ∷ sets_from more (left - 1000) (after_samples (min left 1000) x)

-- a number of samples from the beginning, in sets of at most 1,000
unfoldable pub sample_sets : ℕ → List (List Sample)
sample_sets count = sets_from ((count + 999) / 1000) count start
