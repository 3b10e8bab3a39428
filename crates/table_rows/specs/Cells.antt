-- A cell of an answer takes rows of one element. They are found group by group, in parts of a need and a range of orders.
use Rattle.std.specs.Prelude.{ℕ, ◌+◌, Bool, ◌&&◌, List, [], ◌∷◌, ◌++◌, cond}
use Rattle.std.specs.List.{filter}
use Rattle.dh_base.specs.declared.plain.Need.{Need}
use Rattle.table_rows.specs.declared.row.Row.{Row}
use Rattle.table_rows.specs.declared.row.Group.{Group}
use Rattle.table_rows.specs.declared.sum.Sum.{Sum}
use Rattle.table_rows.specs.Rows.{group_of, is_of_element, is_in_group, meets, in_range, wanted_rows}
use Rattle.table_rows.specs.Groups.{groups_of}
use Rattle.table_rows.specs.Sums.{sum_over, sum_of_rows}

-- a need and a range of orders
pub record Part : Type 0 where
  pub need : Need
  pub from : ℕ
  pub to : ℕ

abbrev pub is_in_part : Row → Part → Bool
is_in_part row part = meets part.need row.approved && in_range part.from part.to row

-- a row is of an element, its group passes a test, and so does the row
abbrev pub is_of_cell : ℕ → (Group → Bool) → (Row → Bool) → Row → Bool
is_of_cell element of_group of_row row = is_of_element element row && (of_group (group_of row) && of_row row)

-- the rows of a cell
abbrev pub cell_rows : ℕ → (Group → Bool) → (Row → Bool) → List Row → List Row
cell_rows element of_group of_row rows = filter (is_of_cell element of_group of_row) rows

-- the sum of one part of a group, as a store gives it
abbrev pub part_sum : List Row → Group → Part → Sum
part_sum rows group part = sum_of_rows (wanted_rows group part.need part.from part.to rows)

-- the sums of the parts of each group
abbrev pub sum_of_parts : ℕ → (Group → Bool) → (Group → List Part) → List Row → Sum
sum_of_parts element of_group parts rows =
    sum_over (λ group. sum_over (part_sum rows group) (parts group)) (filter of_group (groups_of element rows))

-- once where it is so, and else not at all
abbrev pub times : Bool → ℕ
times b = cond b 1 0

-- how many members pass a test
abbrev pub how_many : {A : Type 0} → (A → Bool) → List A → ℕ
how_many t [] = 0
how_many t (a ∷ rest) = times (t a) + how_many t rest

-- the lists that f gives of the members, one after the other
abbrev pub gathered : {A B : Type 0} → (A → List B) → List A → List B
gathered f [] = []
gathered f (a ∷ rest) = f a ++ gathered f rest

-- the rows of a group that pass
abbrev pub group_rows : (Row → Bool) → List Row → Group → List Row
group_rows of_row rows group = filter (λ row. is_in_group group row && of_row row) rows
