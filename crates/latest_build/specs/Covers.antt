-- Keys that hold all that changes moved.
use Rattle.std.specs.Prelude.{◌≡◌, ℕ, List, Contains}
use Rattle.dh_changes.specs.declared.keys.ValueKey.{ValueKey}
use Rattle.dh_changes.specs.declared.keys.RegKey.{RegKey}
use Rattle.dh_metadata.specs.declared.held.Records.{Records}
use Rattle.dh_changes.specs.Facts.{Facts}
use Rattle.dh_records.specs.Access.{tree}
use Rattle.table_build.specs.Values as values
use Rattle.table_build.specs.Regs as registrations
use Rattle.latest_build.specs.Places.{event_row}

-- the units stand as before, and what isn't among these keys has the row that it had
pub record Covers (r : Records) (before after : Facts) (keys : List ValueKey) (ids : List (List ℕ)) (names : List RegKey) : Type 0 where
  pub units : tree before r ≡ tree after r
  pub values : (key : ValueKey) → (Contains keys key → ⊥) → values.row_of r before key ≡ values.row_of r after key
  pub events : (id : List ℕ) → (Contains ids id → ⊥) → event_row r before id ≡ event_row r after id
  pub regs : (key : RegKey) → (Contains names key → ⊥) → registrations.reg_of r before key ≡ registrations.reg_of r after key
