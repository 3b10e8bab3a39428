-- What is wrong with a list of units that is no tree.
use Rattle.std.specs.Prelude.{ℕ, nat_lt, Bool, false, not, cond, ◌&&◌, List, length, Option, Some, None, option_map, is_some, is_none, IsSome}
use Rattle.std.specs.Option.{option_map_or}
use Rattle.org_tree.specs.Count.{count_below, or_else, first_below}
use Rattle.org_tree.specs.Units.{UnitRow, parent_of, climb}
use Rattle.org_tree.specs.declared.fault.TreeFault.{TreeFault}
use Rattle.org_tree.specs.declared.fault.TreeFault.TheVariants.{NoParent, NoRoot, TwoRoots, Loop, TooDeep, Memory}

-- the unit's parent is no unit of the list
abbrev pub has_bad_parent : List UnitRow → ℕ → Bool
has_bad_parent us x = option_map_or (λ p. not (nat_lt p (length us))) (parent_of us x) false

abbrev pub is_root : List UnitRow → ℕ → Bool
is_root us x = is_none (parent_of us x)

-- the unit is a root, and one before it is
abbrev pub is_second_root : List UnitRow → ℕ → Bool
is_second_root us x = is_root us x && nat_lt 0 (count_below (is_root us) x)

-- the unit's parents lead on for as many steps as there are units, so they never reach a root
abbrev pub never_ends : List UnitRow → ℕ → Bool
never_ends us x = is_some (climb (length us) us x)

-- the unit is below the twelfth level
abbrev pub is_too_deep : List UnitRow → ℕ → Bool
is_too_deep us x = is_some (climb 12 us x)

-- no unit is a root, else a second one is
abbrev pub root_fault : List UnitRow → Option TreeFault
root_fault us =
    or_else (cond (is_none (first_below (is_root us) (length us))) (Some NoRoot) None)
    (option_map TwoRoots (first_below (is_second_root us) (length us)))

-- a parent is no unit, else a fault of the roots
abbrev pub shape_fault : List UnitRow → Option TreeFault
shape_fault us = or_else (option_map NoParent (first_below (has_bad_parent us) (length us))) (root_fault us)

-- parents never reach the root, else a level is below the twelfth
abbrev pub depth_fault : List UnitRow → Option TreeFault
depth_fault us =
    or_else (option_map Loop (first_below (never_ends us) (length us)))
    (option_map TooDeep (first_below (is_too_deep us) (length us)))

-- the first fault that there is, in this order: a parent that is no unit, no root, a second root, parents
-- that never reach the root, a level below the twelfth. Each names the first unit that has it
unfoldable pub tree_fault : List UnitRow → Option TreeFault
tree_fault us = or_else (shape_fault us) (depth_fault us)

-- a loop's unit has a parent however far one goes up
abbrev pub NeverReaches : List UnitRow → TreeFault → Type 0
NeverReaches us (NoParent node) = Unit {0}
NeverReaches us NoRoot = Unit {0}
NeverReaches us (TwoRoots second) = Unit {0}
NeverReaches us (Loop node) = (steps : ℕ) → IsSome (climb steps us node)
NeverReaches us (TooDeep node) = Unit {0}
NeverReaches us Memory = Unit {0}
