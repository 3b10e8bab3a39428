use Rattle.std.proofs.Common.{◌≡◌, take}
use Rattle.dh_categories.specs.Combos.{shown_combos}
use Rattle.meta_rules.specs.Categories.{combo_lists}
use Rattle.meta_rules.proofs.combos.all_lists.Given as goal

abbrev pub invariant-loop-combo : goal.invariant-loop-combo
invariant-loop-combo l = shown_combos l.all.items ≡ combo_lists l.categories (take l.combo-index l.combos)
