-- What a seer is made of.
use Rattle.std.specs.Prelude.{◌≡◌, ℕ, ◌<◌, Bool, ◌&&◌, List, length}
use Rattle.dh_sharing.specs.Ranges.{is_within}
use Rattle.dh_metadata.specs.declared.held.Records.{Records}
use Rattle.dh_metadata.specs.Approval.{unit_rows}
use Rattle.dh_metadata.specs.Linked.{AreBelow}
use Rattle.cell_values.specs.declared.cell.CellUnits.{CellUnits}
use Rattle.cell_values.specs.Places.{is_at_some, AreOrdersAt}
use Rattle.cell_values.specs.Seen.{is_viewed}

-- a user, and the ranges of orders that the user views
pub record View : Type 0 where
  pub user : ℕ
  pub views : List (ℕ × ℕ)

-- it is that of a user of this metadata
pub record IsSeer (r : Records) (view : View) : Type 0 where
  pub user : view.user < length r.users
  pub views : (order : ℕ) → is_within view.views order ≡ is_viewed r view.user order

-- the ranges hold exactly the orders that the user views, of some units and of what is under them
pub record AreSeenOrders (r : Records) (user : ℕ) (alone : Bool) (units : List ℕ) (ranges : List (ℕ × ℕ)) : Type 0 where
  pub members : (order : ℕ) → is_within ranges order ≡ (is_viewed r user order && is_at_some (unit_rows r) alone units order)

-- units that are there, with the orders of what is under them, and of these the orders that the user views
pub record AreCellUnits (r : Records) (user : ℕ) (cell : CellUnits) : Type 0 where
  pub below : AreBelow (length r.organisation_units) cell.units
  pub asked : AreOrdersAt (unit_rows r) cell.alone cell.units cell.asked
  pub seen : AreSeenOrders r user cell.alone cell.units cell.seen
