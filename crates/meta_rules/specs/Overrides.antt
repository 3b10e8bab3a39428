-- Category combinations that data sets name for their elements.
use Rattle.std.specs.Prelude.{ℕ, Bool, false, not, List, length, Option, option_map, is_some, slice_get, bytes_eq}
use Rattle.std.specs.Option.{option_map_or}
use Rattle.org_tree.specs.Count.{first_below}
use Rattle.dh_metadata.specs.declared.raw.RawElement.{RawElement}
use Rattle.dh_metadata.specs.declared.raw.RawDataSet.{RawDataSet}
use Rattle.dh_metadata.specs.declared.records.DataSet.{DataSet}
use Rattle.meta_rules.specs.declared.fault.BrokenRule.TheVariants as rule
use Rattle.meta_rules.specs.declared.fault.RuleFault.{RuleFault}
use Rattle.meta_rules.specs.Faults.{breaks}

-- a combination is named for the element, and it isn't the element's own
abbrev pub differs : List RawElement → ℕ → Option (List ℕ) → Bool
differs elements element named =
    option_map_or (λ combo. option_map_or (λ (found : RawElement). not (bytes_eq found.category_combo combo)) (slice_get elements element) false) named false

-- the entry at a place of a data set, whose element has this number, does so
abbrev pub entry_overrides : List RawElement → List ℕ → List (List ℕ × Option (List ℕ)) → ℕ → Bool
entry_overrides elements numbers entries place =
    option_map_or (λ entry. option_map_or (λ number. differs elements number entry.1) (slice_get numbers place) false) (slice_get entries place) false

-- an entry of the data set at a place does so
abbrev pub set_overrides : List RawElement → List RawDataSet → List DataSet → ℕ → Bool
set_overrides elements raw sets place =
    option_map_or (λ (from : RawDataSet). option_map_or (λ (set : DataSet).
    is_some (first_below (entry_overrides elements set.data_set_elements from.data_set_elements) (length from.data_set_elements)))
    (slice_get sets place) false) (slice_get raw place) false

abbrev pub override_fault : List RawDataSet → ℕ → RuleFault
override_fault raw place = breaks rule.Override (option_map (λ (set : RawDataSet). set.id) (slice_get raw place))

-- a data set has an element with another category combination than the element's own
unfoldable pub override_broken : List RawElement → List RawDataSet → List DataSet → Option RuleFault
override_broken elements raw sets = option_map (override_fault raw) (first_below (set_overrides elements raw sets) (length raw))
