-- What the option combinations keep beside them.
use Rattle.std.specs.Prelude.{length}
use Rattle.dh_categories.specs.declared.combos.Combos.TheInside.{Inside}
use Rattle.dh_categories.specs.Single.{AreSingles, CombosBelow}

pub record IsHeld (combos : Inside) : Type 0 where
  pub below : CombosBelow (length combos.singles.items) combos.option_combos.items
  pub singles : AreSingles combos.option_combos.items (length combos.singles.items) (length combos.option_combos.items) combos.singles.items
