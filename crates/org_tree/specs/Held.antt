-- What a tree keeps beside the units that it was built of.
use Rattle.std.specs.Prelude.{◌≡◌, ℕ, ◌<◌, List, length, slice_index}
use Rattle.org_tree.specs.declared.tree.Tree.TheInside.{Inside}
use Rattle.org_tree.specs.Units.{UnitRow, IsTree, level_of}
use Rattle.org_tree.specs.Families.{InFamilies, AreSpans}
use Rattle.org_tree.specs.Walk.{AreSizes, AreOrders, IsWalk}

abbrev pub units_of : Inside → List UnitRow
units_of tree = tree.units.items

-- the units are a tree, and each list has for each unit what its name says
pub record IsHeld (tree : Inside) : Type 0 where
  pub is_tree : IsTree (units_of tree)
  pub levels_length : length tree.levels.items ≡ length (units_of tree)
  pub levels : (x : ℕ) → x < length (units_of tree) → slice_index tree.levels.items x ≡ level_of (units_of tree) x
  pub orders : AreOrders (units_of tree) tree.orders.items
  pub sizes : AreSizes (units_of tree) tree.sizes.items
  pub walk : IsWalk (units_of tree) tree.walk.items
  pub kin : InFamilies (units_of tree) tree.kin.items
  pub spans : AreSpans (units_of tree) tree.kin.items (length (units_of tree)) tree.spans.items
