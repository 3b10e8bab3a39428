-- Lists of ranges of numbers, each with its first number and the one after its last.
use Rattle.std.specs.Prelude.{◌≡◌, ℕ, ◌<◌, ◌≤◌, nat_le, nat_lt, Bool, ◌&&◌, List, length, slice_index_or}
use Rattle.std.specs.List.{list_any}

abbrev pub is_in_range : ℕ → ℕ × ℕ → Bool
is_in_range n range = nat_le range.0 n && nat_lt n range.1

-- the number lies in one of the ranges
abbrev pub is_within : List (ℕ × ℕ) → ℕ → Bool
is_within ranges n = list_any (λ range. is_in_range n range) ranges

-- no range is empty, and a number lies between each and the next
pub record AreApart (ranges : List (ℕ × ℕ)) : Type 0 where
  pub filled : (i : ℕ) → i < length ranges → (slice_index_or ranges i (0, 0)).0 < (slice_index_or ranges i (0, 0)).1
  pub ascending : (i j : ℕ) → i < j → j < length ranges → (slice_index_or ranges i (0, 0)).1 < (slice_index_or ranges j (0, 0)).0

-- the ranges hold exactly the numbers that the others hold
pub record HoldsTheSame (ranges others : List (ℕ × ℕ)) : Type 0 where
  pub members : (n : ℕ) → is_within ranges n ≡ is_within others n

abbrev pub is_filled : ℕ × ℕ → Bool
is_filled range = nat_lt range.0 range.1

-- the ranges ascend by their first numbers, and none is empty
pub record ByFirst (ranges : List (ℕ × ℕ)) : Type 0 where
  pub filled : (i : ℕ) → i < length ranges → (slice_index_or ranges i (0, 0)).0 < (slice_index_or ranges i (0, 0)).1
  pub ascending : (i j : ℕ) → i ≤ j → j < length ranges → (slice_index_or ranges i (0, 0)).0 ≤ (slice_index_or ranges j (0, 0)).0

-- so many ranges begin at the number or before it, and all others after it
pub record IsCount (ranges : List (ℕ × ℕ)) (n begun : ℕ) : Type 0 where
  pub most : begun ≤ length ranges
  pub before : (i : ℕ) → i < begun → (slice_index_or ranges i (0, 0)).0 ≤ n
  pub beyond : (i : ℕ) → begun ≤ i → i < length ranges → n < (slice_index_or ranges i (0, 0)).0
