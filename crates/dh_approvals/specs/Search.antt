-- The first unit, in the order of the tree, that passes a test.
use Rattle.std.specs.Prelude.{ℕ, Bool, false, ◌==◌, List, length, Option, option_and_then}
use Rattle.std.specs.Option.{option_map_or}
use Rattle.org_tree.specs.Count.{first_below}
use Rattle.org_tree.specs.Units.{UnitRow, order_of}

-- the unit at a place of the order
abbrev pub unit_with : List UnitRow → ℕ → Option ℕ
unit_with us order = first_below (λ x. order_of us x == order) (length us)

-- the unit at a place of the order passes
abbrev pub passes_at : List UnitRow → (ℕ → Bool) → ℕ → Bool
passes_at us test order = option_map_or test (unit_with us order) false

-- the first unit that passes
abbrev pub first_unit : List UnitRow → (ℕ → Bool) → Option ℕ
first_unit us test = option_and_then (unit_with us) (first_below (passes_at us test) (length us))
