-- What the texts of a data value or of a completion name.
use Rattle.std.specs.Prelude.{ℕ, Bool, false, ◌==◌, cond, List, find, slice_get, Option, Some, None, option_and_then}
use Rattle.std.specs.Option.{option_map_or, option_to_list}
use denote.Enum.Bare.{sameb}
use Rattle.dh_base.specs.Uid.{uid_of}
use Rattle.dh_categories.specs.Combos.{only_of}
use Rattle.dh_periods.specs.contracts.kind.PeriodType.{the_type}
use Rattle.dh_periods.specs.declared.kind.PeriodType.{PeriodType}
use Rattle.dh_periods.specs.declared.name.PeriodName.{PeriodName}
use Rattle.dh_periods.specs.Texts.{period_of}
use Rattle.dh_metadata.specs.declared.held.Records.{Records}
use Rattle.dh_metadata.specs.declared.kind.Kind.{Kind}
use Rattle.dh_metadata.specs.declared.kind.Kind.TheVariants.{DataSet, CategoryOptionCombo}
use Rattle.dh_metadata.specs.declared.records.DataSet as sets
use Rattle.dh_metadata.specs.declared.records.OptionCombo.{OptionCombo}
use Rattle.dh_metadata.specs.Approval.{option_combo_rows}
use Rattle.dh_metadata.specs.Objects.{find_of}
use Rattle.dh_metadata.specs.Sets.{has_element, sets_with}

-- the object of a kind that a text names
unfoldable pub object_named : Records → Kind → Option (List ℕ) → Option ℕ
object_named r kind text = option_and_then (λ id. find_of r kind id) (option_and_then uid_of text)

-- the period that a text names
unfoldable pub period_named : Option (List ℕ) → Option PeriodName
period_named text = option_and_then period_of text

-- what is there, if it passes a test
abbrev pub if_so : {A : Type 0} → (A → Bool) → Option A → Option A
if_so test None = None
if_so test (Some a) = cond (test a) (Some a) None

-- the data set is for periods of the type
unfoldable pub has_type : Records → PeriodType → ℕ → Bool
has_type r kind set = option_map_or (λ (found : sets.DataSet). sameb the_type found.period_type kind) (slice_get r.data_sets set) false

-- the data sets to which a value of an element may belong, in the order of the bytes of their identifiers: the named one, if it has
-- the element; where none is named, all that have it
unfoldable pub candidates : Records → Option (List ℕ) → ℕ → List ℕ
candidates r None element = sets_with r element
candidates r (Some name) element = option_to_list (if_so (λ set. has_element r set element) (object_named r DataSet (Some name)))

-- the first of the candidates whose periods have the type
unfoldable pub chosen_set : Records → Option (List ℕ) → ℕ → PeriodName → Option ℕ
chosen_set r name element period = find (has_type r period.kind) (candidates r name element)

-- the option combination is of the category combination
unfoldable pub is_of : Records → ℕ → ℕ → Bool
is_of r combo option_combo = option_map_or (λ (found : OptionCombo). found.category_combo == combo) (slice_get r.category_option_combos option_combo) false

-- the option combination of a category combination: the named one, if it is of it; where none is named, the only one
unfoldable pub chosen_combo : Records → Option (List ℕ) → ℕ → Option ℕ
chosen_combo r None combo = only_of (option_combo_rows r) combo
chosen_combo r (Some name) combo = if_so (is_of r combo) (object_named r CategoryOptionCombo (Some name))
