-- Rows, what they are grouped and ordered by, and which are asked for.
use Rattle.std.specs.Prelude.{ℕ, Bool, true, false, ◌&&◌, nat_eq, nat_le, nat_lt, List, Option, Some, None}
use Rattle.std.specs.List.{filter}
use Rattle.dh_base.specs.declared.plain.Need.{Need}
use Rattle.dh_base.specs.declared.plain.Need.TheVariants as need
use Rattle.dh_periods.specs.Keys.{same_period}
use Rattle.table_rows.specs.declared.row.Row.{Row}
use Rattle.table_rows.specs.declared.row.Group.{Group}
use Rattle.table_rows.specs.declared.row.RowKey.{RowKey}

-- the group of a row
abbrev pub group_of : Row → Group
group_of row = record { element = row.element; combo = row.combo; attribute = row.attribute; period = row.period }

-- an approved position in the order of rows, where none comes last
abbrev pub position_of : Option ℕ → ℕ
position_of None = 256
position_of (Some position) = position

-- what a row is ordered by
abbrev pub key_of : Row → RowKey
key_of row = record { group = group_of row; position = position_of row.approved; order = row.order }

-- two groups are one
abbrev pub same_group : Group → Group → Bool
same_group a b = nat_eq a.element b.element && (nat_eq a.combo b.combo && (nat_eq a.attribute b.attribute && same_period a.period b.period))

abbrev pub is_of_element : ℕ → Row → Bool
is_of_element element row = nat_eq row.element element

abbrev pub is_in_group : Group → Row → Bool
is_in_group group row = same_group (group_of row) group

-- two rows are of one group and have one order
abbrev pub same_place : Row → Row → Bool
same_place a b = is_in_group (group_of b) a && nat_eq a.order b.order

-- an approved position meets a need: any does where all rows are taken, and else one that is there and is at most the one asked for
abbrev pub meets : Need → Option ℕ → Bool
meets need.All position = true
meets (need.Upto most) None = false
meets (need.Upto most) (Some position) = nat_le position most

-- the order is from `from` up to below `to`
abbrev pub in_range : ℕ → ℕ → Row → Bool
in_range from to row = nat_le from row.order && nat_lt row.order to

abbrev pub is_wanted : Group → Need → ℕ → ℕ → Row → Bool
is_wanted group need from to row = is_in_group group row && (meets need row.approved && in_range from to row)

-- the rows of a group that meet a need and lie in a range of orders
abbrev pub wanted_rows : Group → Need → ℕ → ℕ → List Row → List Row
wanted_rows group need from to rows = filter (is_wanted group need from to) rows
