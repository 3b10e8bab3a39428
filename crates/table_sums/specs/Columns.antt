-- Rows in columns, and their groups.
use Rattle.std.specs.Prelude.{◌≡◌, ◌<◌, ◌≤◌, ℕ, ℤ, pos, Bool, true, false, cond, nat_lt, All, List, [], ◌∷◌, length, map, get_or, Option, Some, None}
use Rattle.dh_periods.specs.declared.kind.PeriodType.TheVariants.{Daily}
use Rattle.table_rows.specs.declared.row.Row.{Row}
use Rattle.table_rows.specs.declared.row.Group.{Group}
use Rattle.table_rows.specs.Order.{group_cmp}
use Rattle.table_rows.specs.Store.{rises}
use Rattle.table_sums.specs.declared.rows.Head.{Head}
use Rattle.table_sums.specs.declared.gather.Member.{Member}

abbrev pub is_some : Option ℤ → Bool
is_some None = false
is_some (Some number) = true

abbrev pub number_or_0 : Option ℤ → ℤ
number_or_0 None = pos 0
number_or_0 (Some number) = number

-- a row without its number
abbrev pub head_of : Row → Head
head_of row = record {
  element = row.element;
  combo = row.combo;
  attribute = row.attribute;
  period = row.period;
  order = row.order;
  approved = row.approved;
  is_plain = is_some row.micros;
}

-- its number, and 0 where it has none
abbrev pub number_of : Row → ℤ
number_of row = number_or_0 row.micros

-- the row of a head and a number
abbrev pub row_from : Head → ℤ → Row
row_from head number = record {
  element = head.element;
  combo = head.combo;
  attribute = head.attribute;
  period = head.period;
  approved = head.approved;
  order = head.order;
  micros = cond head.is_plain (Some number) None;
}

-- the rows of two columns
unfoldable pub rows_from : List Head → List ℤ → List Row
rows_from [] numbers = []
rows_from (head ∷ heads) [] = []
rows_from (head ∷ heads) (number ∷ numbers) = row_from head number ∷ rows_from heads numbers

-- what is read where no group stands
abbrev pub no_group : Group
no_group = record { element = 0; combo = 0; attribute = 0; period = record { kind = Daily; year = 0; number = 0; day = 0 } }

abbrev pub group_at : List Group → ℕ → Group
group_at groups place = get_or groups place no_group

-- a row in its group, which stands in a place
abbrev pub member_of : Row → ℕ → Member
member_of row group = record { group = group; order = row.order; approved = row.approved; is_plain = is_some row.micros }

abbrev pub head_in : Group → Member → Head
head_in group member = record {
  element = group.element;
  combo = group.combo;
  attribute = group.attribute;
  period = group.period;
  order = member.order;
  approved = member.approved;
  is_plain = member.is_plain;
}

-- the row of a member of one of these groups, without its number
abbrev pub head_from : List Group → Member → Head
head_from groups member = head_in (group_at groups member.group) member

-- the group of a member is one of so many
abbrev pub IsKnown : ℕ → Member → Type 0
IsKnown count member = member.group < count

-- the rows of three columns
abbrev pub rows_in : List Group → List Member → List ℤ → List Row
rows_in groups members numbers = rows_from (map (head_from groups) members) numbers

-- in place j stands how many members are of the first j groups: where those of that group begin
pub record AreBegun (groups : List Group) (starts : List ℕ) (members : List Member) : Type 0 where
  pub even : length starts ≡ length groups
  pub within : (j : ℕ) (e : ℕ) → j < length groups → get_or starts j e ≤ length members
  pub begins : (k j : ℕ) (d : Member) (e : ℕ) → k < length members → j < length groups → nat_lt (get_or members k d).group j ≡ nat_lt k (get_or starts j e)

-- groups in their order and where the rows of each begin; each member is of one of them and has a number beside it
pub record AreColumns (groups : List Group) (starts : List ℕ) (members : List Member) (numbers : List ℤ) : Type 0 where
  pub rise : rises group_cmp groups ≡ true
  pub begun : AreBegun groups starts members
  pub known : All (IsKnown (length groups)) members
  pub even : length members ≡ length numbers
