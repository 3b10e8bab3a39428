-- The organisation units in the order of the tree.
use Rattle.std.specs.Prelude.{ℕ, zero, suc, ◌<◌, ◌==◌, List, [], ◌++◌, length, Option, All, nat_eq, Bool}
use Rattle.std.specs.List.{list_any}
use Rattle.std.specs.Option.{option_to_list}
use Rattle.std.specs.HashSet.{contains, HashSet}
use Rattle.org_tree.specs.Count.{first_below}
use Rattle.org_tree.specs.Units.{UnitRow, order_of}
use Rattle.std.specs.Prelude.{◌≡◌}

-- the unit at a place of the walk
abbrev pub unit_at : List UnitRow → ℕ → Option ℕ
unit_at us order = first_below (λ x. order_of us x == order) (length us)

-- the units at the first places of the walk
abbrev pub first_units : List UnitRow → ℕ → List ℕ
first_units us zero = []
first_units us (suc order) = first_units us order ++ option_to_list (unit_at us order)

-- all units in the order of the tree
unfoldable pub walk_of : List UnitRow → List ℕ
walk_of us = first_units us (length us)

-- one of the numbers is this one
abbrev pub has : List ℕ → ℕ → Bool
has numbers n = list_any (nat_eq n) numbers

-- each number is below the end
abbrev pub AreIn : ℕ → List ℕ → Type 0
AreIn end numbers = All (λ n. n < end) numbers

-- a set has these numbers and no others
abbrev pub Knows : {S : Type 0} → HashSet ℕ S → List ℕ → Type 0
Knows seen numbers = (n : ℕ) → contains nat_eq seen n ≡ has numbers n
