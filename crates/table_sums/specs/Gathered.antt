-- Rows put to the groups one after the other.
use Rattle.std.specs.Prelude.{◌≡◌, ◌≤◌, ◌<◌, ◌-◌, ℕ, true, All, List, length, map, take, get_or}
use Rattle.table_rows.specs.declared.row.Row.{Row}
use Rattle.table_rows.specs.declared.row.Group.{Group}
use Rattle.table_rows.specs.Order.{group_cmp}
use Rattle.table_rows.specs.Rows.{group_of}
use Rattle.table_rows.specs.Store.{rises}
use Rattle.table_sums.specs.declared.gather.Member.{Member}
use Rattle.table_sums.specs.Columns.{head_of, head_from, group_at, IsKnown, AreBegun}

-- the first n rows, with their groups in the order in which these come
pub record IsGathered (rows : List Row) (n : ℕ) (groups : List Group) (starts : List ℕ) (members : List Member) : Type 0 where
  pub heads : map (head_from groups) members ≡ map head_of (take n rows)
  pub known : All (IsKnown (length groups)) members
  pub few : length groups ≤ n
  pub rise : rises group_cmp groups ≡ true
  pub last : (d : Row) → 0 < n → group_at groups (length groups - 1) ≡ group_of (get_or rows (n - 1) d)
  pub begun : AreBegun groups starts members
