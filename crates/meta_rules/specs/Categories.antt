-- Category option combinations by their categories.
use Rattle.std.specs.Prelude.{ℕ, List, [], Option, map, option_map, slice_get}
use Rattle.std.specs.Option.{option_map_or}
use Rattle.dh_categories.specs.Combos.{first_bad}
use Rattle.dh_metadata.specs.declared.records.Category.{Category}
use Rattle.dh_metadata.specs.declared.records.CategoryCombo.{CategoryCombo}
use Rattle.dh_metadata.specs.declared.records.OptionCombo.{OptionCombo}
use Rattle.dh_metadata.specs.Rows.{option_combo_rows}
use Rattle.meta_rules.specs.declared.fault.BrokenRule.TheVariants as rule
use Rattle.meta_rules.specs.declared.fault.RuleFault.{RuleFault}
use Rattle.meta_rules.specs.Faults.{breaks}

-- the options of a category
abbrev pub options_of : List Category → ℕ → List ℕ
options_of categories place = option_map_or (λ (category : Category). category.category_options) (slice_get categories place) []

-- for each combination, the options of each of its categories
abbrev pub combo_lists : List Category → List CategoryCombo → List (List (List ℕ))
combo_lists categories combos = map (λ (combo : CategoryCombo). map (options_of categories) combo.categories) combos

abbrev pub option_combo_id : List OptionCombo → ℕ → Option (List ℕ)
option_combo_id option_combos place = option_map (λ (option_combo : OptionCombo). option_combo.id) (slice_get option_combos place)

-- one of these isn't one option of each category of its combination
unfoldable pub rows_broken : List (List (List ℕ)) → List (ℕ × List ℕ) → List OptionCombo → Option RuleFault
rows_broken lists rows option_combos = option_map (λ place. breaks rule.Combo (option_combo_id option_combos place)) (first_bad lists rows)

-- an option combination isn't one option of each category of its combination
abbrev pub combo_broken : List Category → List CategoryCombo → List OptionCombo → Option RuleFault
combo_broken categories combos option_combos = rows_broken (combo_lists categories combos) (option_combo_rows option_combos) option_combos
