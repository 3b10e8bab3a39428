-- Where two lists of ranges overlap.
use Rattle.std.specs.Prelude.{◌≡◌, ℕ, ◌&&◌, List, max, min}
use Rattle.dh_sharing.specs.Ranges.{is_within}

-- what both ranges hold
abbrev pub overlap_of : ℕ × ℕ → ℕ × ℕ → ℕ × ℕ
overlap_of a b = (max a.0 b.0, min a.1 b.1)

-- the ranges hold exactly the numbers that both others hold
pub record HoldsBoth (a b ranges : List (ℕ × ℕ)) : Type 0 where
  pub members : (n : ℕ) → is_within ranges n ≡ (is_within a n && is_within b n)
