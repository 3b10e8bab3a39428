use Rattle.std.proofs.Common.{◌≡◌, map, take}
use Rattle.dh_categories.specs.Combos.{shown_option_combo}
use Rattle.dh_categories.proofs.combos.copied.Given as goal

abbrev pub invariant-loop-i : goal.invariant-loop-i
invariant-loop-i l = l.copies.items ≡ map shown_option_combo (take l.i l.option_combos)
