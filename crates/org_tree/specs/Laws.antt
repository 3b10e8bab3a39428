-- What the walk through a tree is known by.
use Rattle.std.specs.Prelude.{◌≡◌, ℕ, ◌+◌, ◌<◌, ◌≤◌, ◌&&◌, true, nat_le, nat_lt, List, length, Some}
use Rattle.std.specs.Ordering.{nat_cmp, is_lt}
use Rattle.std.specs.Cmp.Lexicographic.{slice_cmp}
use Rattle.org_tree.specs.Units.{UnitRow, id_at, parent_of, is_under, order_of, size_of}

-- the walk meets the parent first
pub record IsBehindParent (us : List UnitRow) (x : ℕ) : Type 0 where
  pub parent_first : (p : ℕ) → parent_of us x ≡ Some p → order_of us p < order_of us x

-- and each sibling with a smaller UID, with all under it
pub record IsBehindElders (us : List UnitRow) (x : ℕ) : Type 0 where
  pub elder_first : (z p : ℕ) → z < length us → parent_of us z ≡ Some p → parent_of us x ≡ Some p → is_lt (slice_cmp nat_cmp (id_at us z) (id_at us x)) ≡ true
      → order_of us z + size_of us z ≤ order_of us x

-- the units whose places lie from the first up to the end are exactly those under y
pub record HasInterval (us : List UnitRow) (y first end : ℕ) : Type 0 where
  pub members : (x : ℕ) → x < length us → is_under us x y ≡ (nat_le first (order_of us x) && nat_lt (order_of us x) end)
