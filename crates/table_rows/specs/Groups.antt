-- The groups that have a row.
use Rattle.std.specs.Prelude.{ℕ, ◌-◌, Bool, true, not, List, [], ◌∷◌, map, length, cond, ◌&&◌, ◌++◌, Option, Some, None, slice_get}
use Rattle.std.specs.List.{filter}
use Rattle.table_rows.specs.declared.row.Row.{Row}
use Rattle.table_rows.specs.declared.row.Group.{Group}
use Rattle.table_rows.specs.Rows.{group_of, same_group, is_of_element}

-- the elements of a list where each first stands
abbrev pub each_once : {X : Type 0} → (X → X → Bool) → List X → List X
each_once same [] = []
each_once same (x ∷ xs) = x ∷ filter (λ y. not (same x y)) (each_once same xs)

-- the groups of an element that have a row, in the order of the rows
unfoldable pub groups_of : ℕ → List Row → List Group
groups_of element rows = each_once same_group (map group_of (filter (is_of_element element) rows))

abbrev pub differs_from : Option Group → Group → Bool
differs_from None group = true
differs_from (Some last) group = not (same_group group last)

-- the group isn't the last of these
abbrev pub differs_from_last : List Group → Group → Bool
differs_from_last groups group = differs_from (slice_get groups (length groups - 1)) group

-- a group more, where it is asked for and isn't the last
abbrev pub with_group : Bool → List Group → Group → List Group
with_group asked groups group = cond (asked && differs_from_last groups group) (groups ++ group ∷ []) groups
