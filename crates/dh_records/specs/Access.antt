-- Who may do what, and the tree of the units, after a log.
use Rattle.std.specs.Prelude.{◌≡◌, ℕ, Bool, List, length}
use Rattle.dh_sharing.specs.declared.access.Right.{Right}
use Rattle.org_tree.specs.Units.{UnitRow}
use Rattle.dh_metadata.specs.declared.held.Records.{Records}
use Rattle.dh_metadata.specs.declared.kind.Kind.{Kind}
use Rattle.dh_metadata.specs.Approval.{unit_rows}
use Rattle.dh_metadata.specs.Users.{may_of}
use Rattle.dh_changes.specs.Facts.{Facts}

-- the user has the right to the object: no write changes how the metadata shares it
unfoldable pub access : Facts → Records → ℕ → Right → Kind → ℕ → Bool
access facts r user right kind number = may_of r user right kind number

-- each unit's identifier and its parent: no write changes those of the metadata
unfoldable pub tree : Facts → Records → List UnitRow
tree facts r = unit_rows r

-- the metadata by which it is asked and viewed after a log, with these rights and this tree: no write changes those of the metadata
unfoldable pub meta_after : Facts → Records → Records
meta_after facts r = r

-- rights and the tree are those after a log, of as many users and units
pub record IsAfter (facts : Facts) (r : Records) (after : Records) : Type 0 where
  pub rights : (user : ℕ) (right : Right) (kind : Kind) (number : ℕ) → may_of after user right kind number ≡ access facts r user right kind number
  pub tree_is : unit_rows after ≡ tree facts r
  pub users : length after.users ≡ length r.users
  pub units : length after.organisation_units ≡ length r.organisation_units
