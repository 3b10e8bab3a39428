use Rattle.dh_categories.specs.Single.{AreSingles}
use Rattle.dh_categories.proofs.single.singles.Given as goal

abbrev pub invariant-loop-place : goal.invariant-loop-place
invariant-loop-place l = AreSingles l.option_combos l.count l.place l.singles.items
