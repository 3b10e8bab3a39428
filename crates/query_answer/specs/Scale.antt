-- From the values of the two sides to the value of an indicator.
use Rattle.std.specs.Prelude.{ℕ, ℤ, pos, Bool, true, false, Result, Ok, Err}
use Rattle.dh_base.specs.declared.plain.NumFault.{NumFault}
use Rattle.dh_base.specs.declared.plain.NumFault.TheVariants as fault
use Rattle.dh_base.specs.Fractions.{Fraction, fraction_of, mul_of, div_of, and_then}
use Rattle.expr_eval.specs.declared.value.Value.{Value}
use Rattle.expr_eval.specs.declared.value.Value.TheVariants as value
use Rattle.query_answer.specs.declared.arithmetic.CellValue.{CellValue}
use Rattle.query_answer.specs.declared.arithmetic.CellValue.TheVariants as cell

abbrev pub whole_number : ℤ → Fraction
whole_number n = fraction_of n 1

-- a year of 365 days over so many days
abbrev pub a_year_over : ℕ → Fraction
a_year_over days = fraction_of (pos 365) days

-- an annualized number is that of a year
abbrev pub yearly : Bool → ℕ → Fraction → Result Fraction NumFault
yearly true days x = mul_of x (a_year_over days)
yearly false days x = Ok x

-- the quotient of the sides, times the factor, times 365 / days where annualized, in this order; or the first fault
abbrev pub scaled : ℤ → Bool → ℕ → Fraction → Fraction → Result Fraction NumFault
scaled factor annualized days x y =
    and_then (div_of x y) (λ quotient. and_then (mul_of quotient (whole_number factor)) (yearly annualized days))

-- a division by zero gives no value
abbrev pub cell_of : Result Fraction NumFault → CellValue
cell_of (Ok x) = cell.Number x
cell_of (Err fault.Wide) = cell.Wide
cell_of (Err fault.ByZero) = cell.None

-- a side that isn't a number: one that is too wide makes the cell so, and else there is no value
abbrev pub not_a_number : Value → CellValue
not_a_number value.Wide = cell.Wide
not_a_number _ = cell.None

-- the value of an indicator with these sides: the first of them that isn't a number decides, numerator first
unfoldable pub of_sides : ℤ → Bool → ℕ → Value → Value → CellValue
of_sides factor annualized days (value.Number x) (value.Number y) = cell_of (scaled factor annualized days x y)
of_sides factor annualized days (value.Number x) other = not_a_number other
of_sides factor annualized days other _ = not_a_number other
