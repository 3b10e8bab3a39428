use Rattle.std.proofs.Common.{◌≡◌, ◌<◌, ℕ, false, [], get_or}
use Rattle.dh_categories.specs.Combos.{is_bad, shown_combos}
use Rattle.dh_categories.proofs.combos.first_bad.Given as goal

abbrev pub invariant-loop-place : goal.invariant-loop-place
invariant-loop-place l = (k : ℕ) → k < l.place → is_bad (shown_combos l.combos) (get_or l.option_combos k (0, [])) ≡ false
