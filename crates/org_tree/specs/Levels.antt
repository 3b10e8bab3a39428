-- What a build knows of the units above a unit.
use Rattle.std.specs.Prelude.{◌≡◌, ℕ, ◌+◌, ◌<◌, ◌≤◌, List, length, slice_index, slice_get, Bool, Option, Some, None, option_and_then, is_some}
use Rattle.org_tree.specs.Units.{UnitRow, parent_of, climb}

-- so many steps above x stands the root, and that gives x's level, which is twelve at most
pub record HasLevel (us : List UnitRow) (x level : ℕ) : Type 0 where
  pub above : ℕ
  pub root : ℕ
  pub is : level ≡ above + 1
  pub reached : climb above us x ≡ Some root
  pub top : parent_of us root ≡ None
  pub shallow : level ≤ 12

pub record AreLevels (us : List UnitRow) (levels : List ℕ) : Type 0 where
  pub same_length : length levels ≡ length us
  pub each : (x : ℕ) → x < length us → HasLevel us x (slice_index levels x)

-- where the list leads from x
abbrev pub jump : List (Option ℕ) → ℕ → Option ℕ
jump jumps x = option_and_then (λ o. o) (slice_get jumps x)

abbrev pub leads_on : List (Option ℕ) → ℕ → Bool
leads_on jumps x = is_some (jump jumps x)

-- every jump leads to a place of the list
pub record StaysInside (jumps : List (Option ℕ)) : Type 0 where
  pub in_range : (x p : ℕ) → jump jumps x ≡ Some p → p < length jumps

-- the list leads so many steps up at once
pub record Climbs (us : List UnitRow) (steps : ℕ) (jumps : List (Option ℕ)) : Type 0 where
  pub same_length : length jumps ≡ length us
  pub each : (x : ℕ) → x < length us → jump jumps x ≡ climb steps us x

-- the list makes two jumps of the other at once
pub record IsTwice (jumps double : List (Option ℕ)) : Type 0 where
  pub same_length : length double ≡ length jumps
  pub each : (x : ℕ) → x < length jumps → jump double x ≡ option_and_then (λ p. jump jumps p) (jump jumps x)
