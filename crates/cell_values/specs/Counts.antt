-- Numbers in ranges: how many of an ascending list, and of all.
use Rattle.std.specs.Prelude.{◌≡◌, ℕ, ◌+◌, ◌-◌, ◌<◌, ◌≤◌, nat_lt, ◌||◌, List, [], ◌∷◌, length, get_or}
use Rattle.std.specs.List.{filter}
use Rattle.dh_sharing.specs.Ranges.{is_in_range, is_within}
use Rattle.dh_periods.specs.declared.kind.PeriodType.{PeriodType}
use Rattle.dh_periods.specs.declared.name.PeriodName.{PeriodName}
use Rattle.cell_values.specs.Reporting.{begins_in, begins_in_some}

-- no number stands after a greater one
pub record IsAscending (numbers : List ℕ) : Type 0 where
  pub far : (j k : ℕ) → j ≤ k → k < length numbers → get_or numbers j 0 ≤ get_or numbers k 0

abbrev pub how_many_below : List ℕ → ℕ → ℕ
how_many_below numbers end = length (filter (λ n. nat_lt n end) numbers)

abbrev pub how_many_in : List ℕ → ℕ × ℕ → ℕ
how_many_in numbers range = length (filter (λ n. is_in_range n range) numbers)

abbrev pub how_many_within : List ℕ → List (ℕ × ℕ) → ℕ
how_many_within numbers ranges = length (filter (is_within ranges) numbers)

-- how many numbers the ranges hold
abbrev pub covered : List (ℕ × ℕ) → ℕ
covered [] = 0
covered (range ∷ ranges) = (range.1 - range.0) + covered ranges

-- the ranges hold exactly the days on which periods of the type begin that lie in some of these
pub record AreBegins (kind : PeriodType) (periods : List PeriodName) (ranges : List (ℕ × ℕ)) : Type 0 where
  pub members : (n : ℕ) → is_within ranges n ≡ begins_in_some kind periods n

-- the days of one period more
pub record AddsBegins (kind : PeriodType) (period : PeriodName) (old new : List (ℕ × ℕ)) : Type 0 where
  pub members : (n : ℕ) → is_within new n ≡ (is_within old n || begins_in kind period n)
