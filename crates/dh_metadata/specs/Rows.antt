-- Units and option combinations as the rows of the tree and of the list of combinations.
use Rattle.std.specs.Prelude.{ℕ, List, map}
use Rattle.org_tree.specs.Units.{UnitRow}
use Rattle.dh_metadata.specs.declared.records.Unit.{Unit}
use Rattle.dh_metadata.specs.declared.records.OptionCombo.{OptionCombo}

-- a unit's identifier and the place of its parent
abbrev pub tree_rows : List Unit → List UnitRow
tree_rows units = map (λ unit. (unit.id, unit.parent)) units

-- an option combination's category combination and its options
abbrev pub option_combo_rows : List OptionCombo → List (ℕ × List ℕ)
option_combo_rows option_combos = map (λ (option_combo : OptionCombo). (option_combo.category_combo, option_combo.category_options)) option_combos
