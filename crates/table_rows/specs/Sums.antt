-- Sums of rows.
use Rattle.std.specs.Prelude.{ℕ, ◌+◌, ◌*◌, ◌^◌, ◌≤◌, ℤ, pos, ◌+ℤ◌, unsigned_abs, List, [], ◌∷◌, Option, Some, None}
use Rattle.table_rows.specs.declared.row.Row.{Row}
use Rattle.table_rows.specs.declared.sum.Sum.{Sum}
use Rattle.dh_base.specs.declared.limits.TheConstants.{MOST_RECORDS}

-- a sum of millionths, of how many rows it is, and how many of these have a number
abbrev pub sum_with : ℤ → ℕ → ℕ → Sum
sum_with micros count plain = record { micros = micros; count = count; plain = plain }

abbrev pub no_sum : Sum
no_sum = sum_with (pos 0) 0 0

-- the sum of one row, by its number
abbrev pub sum_of_number : Option ℤ → Sum
sum_of_number None = sum_with (pos 0) 1 0
sum_of_number (Some micros) = sum_with micros 1 1

abbrev pub sum_of_row : Row → Sum
sum_of_row row = sum_of_number row.micros

-- the sum of two parts
abbrev pub joined : Sum → Sum → Sum
joined a b = sum_with (a.micros +ℤ b.micros) (a.count + b.count) (a.plain + b.plain)

-- the sum of what f gives of each member
abbrev pub sum_over : {X : Type 0} → (X → Sum) → List X → Sum
sum_over f [] = no_sum
sum_over f (x ∷ xs) = joined (f x) (sum_over f xs)

unfoldable pub sum_of_rows : List Row → Sum
sum_of_rows rows = sum_over sum_of_row rows

-- a sum of at most 4,194,304 rows, of which each number has 64 bits
pub record IsSized (sum : Sum) : Type 0 where
  pub micros : unsigned_abs sum.micros ≤ 2 ^ 63 * sum.count
  pub plain : sum.plain ≤ sum.count
  pub count : sum.count ≤ MOST_RECORDS
