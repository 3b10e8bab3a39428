-- What a build knows of the walk.
use Rattle.std.specs.Prelude.{◌≡◌, ℕ, ◌<◌, cond, List, length, slice_index, Option, Some, None}
use Rattle.org_tree.specs.Count.{count_below}
use Rattle.org_tree.specs.Units.{UnitRow, is_under, order_of, size_of}

-- how many of the first units are under each unit
pub record CountsUnder (us : List UnitRow) (counted : ℕ) (sizes : List ℕ) : Type 0 where
  pub same_length : length sizes ≡ length us
  pub each : (y : ℕ) → y < length us → slice_index sizes y ≡ count_below (λ z. is_under us z y) counted

-- whether y is met from here up
abbrev pub ahead_of : List UnitRow → Option ℕ → ℕ → ℕ
ahead_of us None y = 0
ahead_of us (Some here) y = cond (is_under us here y) 1 0

pub record AreSizes (us : List UnitRow) (sizes : List ℕ) : Type 0 where
  pub same_length : length sizes ≡ length us
  pub each : (x : ℕ) → x < length us → slice_index sizes x ≡ size_of us x

-- the places of the first units of the list in the walk
pub record OrdersSoFar (us : List UnitRow) (kin : List ℕ) (done : ℕ) (orders : List ℕ) : Type 0 where
  pub same_length : length orders ≡ length us
  pub each : (i : ℕ) → i < done → slice_index orders (slice_index kin i) ≡ order_of us (slice_index kin i)

pub record AreOrders (us : List UnitRow) (orders : List ℕ) : Type 0 where
  pub same_length : length orders ≡ length us
  pub each : (x : ℕ) → x < length us → slice_index orders x ≡ order_of us x

-- the units in the order of the walk
pub record IsWalk (us : List UnitRow) (walk : List ℕ) : Type 0 where
  pub same_length : length walk ≡ length us
  pub in_range : (order : ℕ) → order < length us → slice_index walk order < length us
  pub each : (order : ℕ) → order < length us → order_of us (slice_index walk order) ≡ order
