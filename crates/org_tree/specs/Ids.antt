-- Identifiers in a list, side by side.
use Rattle.std.specs.Prelude.{◌≡◌, ℕ, ◌+◌, ◌<◌, false, List, [], length, slice_index_or, bytes_eq}

-- no two neighbours are equal
pub record NeighboursDiffer (ids : List (List ℕ)) : Type 0 where
  pub differ : (k : ℕ) → k + 1 < length ids → bytes_eq (slice_index_or ids k []) (slice_index_or ids (k + 1) []) ≡ false

-- two neighbours are
pub record NeighboursMeet (ids : List (List ℕ)) : Type 0 where
  pub place : ℕ
  pub inside : place + 1 < length ids
  pub same : slice_index_or ids place [] ≡ slice_index_or ids (place + 1) []
