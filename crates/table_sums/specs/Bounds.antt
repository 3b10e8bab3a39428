-- Bounds in rows that stand in their order.
use Rattle.std.specs.Prelude.{◌≡◌, ℕ, ◌+◌, ◌<◌, ◌≤◌, cond, Bool, true, false, not, ◌&&◌, ◌||◌, nat_eq, nat_lt, nat_le, List, length, get_or}
use Rattle.std.specs.Ordering.{is_lt, is_gt}
use Rattle.table_rows.specs.declared.row.Row.{Row}
use Rattle.table_rows.specs.declared.row.Group.{Group}
use Rattle.table_rows.specs.Groups.{with_group}
use Rattle.table_rows.specs.Rows.{key_of, group_of, same_group}
use Rattle.table_rows.specs.Order.{key_cmp, group_cmp}
use Rattle.table_sums.specs.declared.search.Bound.{Bound}
use Rattle.table_sums.specs.Columns.{group_at}
use Rattle.table_sums.specs.declared.search.Bound.TheVariants as bound

-- a row stands before the bound
abbrev pub is_before : Bound → Row → Bool
is_before (bound.Key key) row = is_lt (key_cmp (key_of row) key)
is_before (bound.Element element) row = nat_lt row.element element
is_before (bound.UptoElement element) row = nat_le row.element element
is_before (bound.UptoGroup group) row = not (is_gt (group_cmp (group_of row) group))

-- all rows of the group stand before the bound; of a key, those of groups below the key's
abbrev pub is_group_before : Bound → Group → Bool
is_group_before (bound.Key key) group = is_lt (group_cmp group key.group)
is_group_before (bound.Element element) group = nat_lt group.element element
is_group_before (bound.UptoElement element) group = nat_le group.element element
is_group_before (bound.UptoGroup last) group = not (is_gt (group_cmp group last))

-- the next place, where the group stands in this one, and else this place
abbrev pub place_after : List Group → ℕ → Group → ℕ
place_after groups place group = cond (nat_lt place (length groups) && same_group (group_at groups place) group) (place + 1) place

-- how a place in a group stands to another one
abbrev pub is_place_below : ℕ → ℕ → ℕ → ℕ → Bool
is_place_below position order p o = nat_lt position p || (nat_eq position p && nat_lt order o)

-- the first `place` members pass the test, and no later one does
pub record IsCut {X : Type 0} (test : X → Bool) (xs : List X) (place : ℕ) : Type 0 where
  pub within : place ≤ length xs
  pub before : (k : ℕ) (d : X) → k < place → test (get_or xs k d) ≡ true
  pub after : (k : ℕ) (d : X) → place ≤ k → k < length xs → test (get_or xs k d) ≡ false

-- the rows of a group are those from `low` up to below `high`
pub record IsSpan (group : Group) (rows : List Row) (low high : ℕ) : Type 0 where
  pub between : low ≤ high
  pub within : high ≤ length rows
  pub before : (k : ℕ) (d : Row) → k < low → is_lt (group_cmp (group_of (get_or rows k d)) group) ≡ true
  pub same : (k : ℕ) (d : Row) → low ≤ k → k < high → group_of (get_or rows k d) ≡ group
  pub after : (k : ℕ) (d : Row) → high ≤ k → k < length rows → is_gt (group_cmp (group_of (get_or rows k d)) group) ≡ true

-- the group of the row in a place is put to others, and `next` is where the rows up to that group end
pub record NextGroup (rows : List Row) (place : ℕ) (old new : List Group) (next : ℕ) : Type 0 where
  pub at : (d : Row) → new ≡ with_group true old (group_of (get_or rows place d))
  pub cut : (d : Row) → IsCut (is_before (bound.UptoGroup (group_of (get_or rows place d)))) rows next
