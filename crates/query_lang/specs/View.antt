-- Units under others.
use Rattle.std.specs.Prelude.{◌≡◌, ℕ, ◌<◌, Bool, List, length}
use Rattle.std.specs.List.{list_any}
use Rattle.dh_sharing.specs.Ranges.{is_within}
use Rattle.org_tree.specs.Units.{UnitRow, is_under, order_of}

-- the unit is under one of these
abbrev pub is_under_any : List UnitRow → List ℕ → ℕ → Bool
is_under_any us bounds x = list_any (λ y. is_under us x y) bounds

-- the ranges hold the places of exactly the units that are under one of these
pub record Covers (us : List UnitRow) (bounds : List ℕ) (ranges : List (ℕ × ℕ)) : Type 0 where
  pub members : (x : ℕ) → x < length us → is_within ranges (order_of us x) ≡ is_under_any us bounds x
