use Rattle.std.proofs.Common.{◌≡◌, take, map}
use Rattle.dh_categories.specs.Combos.{shown_combo}
use Rattle.meta_rules.specs.Categories.{options_of}
use Rattle.meta_rules.proofs.combos.lists.Given as goal

abbrev pub invariant-loop-category : goal.invariant-loop-category
invariant-loop-category l = shown_combo l.lists ≡ map (options_of l.categories) (take l.category-index l.combo)
