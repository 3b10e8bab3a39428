use Rattle.std.proofs.Common.{◌≡◌, take}
use Rattle.dh_categories.specs.Combos.{shown_option_combos}
use Rattle.dh_metadata.specs.Rows.{option_combo_rows}
use Rattle.meta_rules.proofs.combos.rows.Given as goal

abbrev pub invariant-loop-option_combo : goal.invariant-loop-option_combo
invariant-loop-option_combo l = shown_option_combos l.rows.items ≡ option_combo_rows (take l.option_combo-index l.option_combos)
