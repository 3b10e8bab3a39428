-- Which lists have a number.
use Rattle.std.specs.Prelude.{◌≡◌, ℕ, ◌<◌, Bool, false, ◌==◌, cond, List, [], ◌∷◌, ◌++◌, length, filter, slice_get, slice_index_or}
use Rattle.std.specs.List.{list_any}
use Rattle.std.specs.List.Sorted.{IsStrictlyIncreasing}
use Rattle.std.specs.Option.{option_map_or}

-- the number is one of these
abbrev pub has : List ℕ → ℕ → Bool
has numbers n = list_any (λ own. own == n) numbers

-- the list at that place has the number
abbrev pub has_at : List (List ℕ) → ℕ → ℕ → Bool
has_at lists n place = option_map_or (λ numbers. has numbers n) (slice_get lists place) false

-- of the places in this order, those whose lists have the number
abbrev pub holders : List (List ℕ) → List ℕ → ℕ → List ℕ
holders lists order n = filter (has_at lists n) order

-- for each number below the count, the places whose lists have it
pub record AreHolders (lists : List (List ℕ)) (order : List ℕ) (count : ℕ) (all : List (List ℕ)) : Type 0 where
  pub same_length : length all ≡ count
  pub each : (n : ℕ) → n < count → slice_index_or all n [] ≡ holders lists order n

-- the same numbers once, ascending
pub record IsSortedCopy (numbers sorted : List ℕ) : Type 0 where
  pub ascend : IsStrictlyIncreasing sorted
  pub same : (n : ℕ) → has sorted n ≡ has numbers n

-- of each list the same numbers once, ascending
pub record AreSortedCopies (lists all : List (List ℕ)) : Type 0 where
  pub same_length : length all ≡ length lists
  pub each : (k : ℕ) → k < length lists → IsSortedCopy (slice_index_or lists k []) (slice_index_or all k [])

-- a place was put at the end of the lists with these numbers
pub record IsPutAt (place : ℕ) (numbers : List ℕ) (old new : List (List ℕ)) : Type 0 where
  pub same_length : length new ≡ length old
  pub each : (n : ℕ) → n < length old → slice_index_or new n [] ≡ slice_index_or old n [] ++ cond (has numbers n) (place ∷ []) []

-- each list ascends
pub record EachAscends (lists : List (List ℕ)) : Type 0 where
  pub each : (k : ℕ) → k < length lists → IsStrictlyIncreasing (slice_index_or lists k [])
