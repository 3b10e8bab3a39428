-- What logs leave of rights and the tree: all of them leave the same today.
use Rattle.std.proofs.Common.{◌≡◌, ℕ, length, refl}
use Rattle.dh_metadata.specs.declared.held.Records.{Records}
use Rattle.dh_changes.specs.Facts.{Facts}
use Rattle.dh_records.specs.Access.{access, tree, meta_after, IsAfter}

-- metadata after two logs are the same
pub same_after : (one other : Facts) (r : Records) → meta_after one r ≡ meta_after other r
unfolding meta_after
same_after one other r = refl

-- metadata after a log have the rights and the tree that the log leaves
pub is_after : (facts : Facts) (r : Records) → IsAfter facts r (meta_after facts r)
unfolding access tree meta_after
is_after facts r = record { rights = λ user right kind number. refl; tree_is = refl; users = refl; units = refl }
