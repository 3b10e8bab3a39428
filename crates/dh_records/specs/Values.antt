-- Which texts are values of a type, and which numbers they are.
--
-- Numbers are counted in millionths.
use Rattle.std.specs.Prelude.{ℕ, ◌&&◌, ◌||◌, Bool, true, false, cond, ℤ, pos, int_lt, int_le, List, length, Option, Some, None, is_some, option_and_then}
use Rattle.std.specs.Prelude.{nat_le, bytes_eq}
use Rattle.std.specs.List.{list_any}
use lib.Chars.{codes}
use Rattle.dh_base.specs.Decimals.{decimal_of, is_point}
use Rattle.dh_periods.specs.Civil.{civil_of}
use Rattle.dh_metadata.specs.declared.names.ValueType.{ValueType}
use Rattle.dh_metadata.specs.declared.names.ValueType.TheVariants as value_type

-- the values of the type are numbers
abbrev pub is_numeric : ValueType → Bool
is_numeric value_type.Number = true
is_numeric value_type.Integer = true
is_numeric value_type.IntegerPositive = true
is_numeric value_type.IntegerNegative = true
is_numeric value_type.IntegerZeroOrPositive = true
is_numeric value_type.Percentage = true
is_numeric value_type.UnitInterval = true
is_numeric value_type.Boolean = false
is_numeric value_type.TrueOnly = false
is_numeric value_type.Date = false
is_numeric value_type.Text = false

-- the number of a decimal text without a point
unfoldable pub integer_of : List ℕ → Option ℤ
integer_of text = cond (list_any is_point text) None (decimal_of text)

-- a number, where it passes a test
abbrev pub number_if : (ℤ → Bool) → Option ℤ → Option ℤ
number_if test found = option_and_then (λ number. cond (test number) (Some number) None) found

-- from 0 to a number
abbrev pub is_up_to : ℤ → ℤ → Bool
is_up_to most number = int_le (pos 0) number && int_le number most

abbrev pub is_true : List ℕ → Bool
is_true text = bytes_eq text (codes "true") || bytes_eq text (codes "1")

abbrev pub is_false : List ℕ → Bool
is_false text = bytes_eq text (codes "false") || bytes_eq text (codes "0")

-- the number of a truth
unfoldable pub truth_of : List ℕ → Option ℤ
truth_of text = cond (is_true text) (Some (pos 1000000)) None

unfoldable pub boolean_of : List ℕ → Option ℤ
boolean_of text = cond (is_false text) (Some (pos 0)) (truth_of text)

-- the number of a text that is a value of the type
abbrev pub number_of : ValueType → List ℕ → Option ℤ
number_of value_type.Number text = decimal_of text
number_of value_type.Integer text = integer_of text
number_of value_type.IntegerPositive text = number_if (int_lt (pos 0)) (integer_of text)
number_of value_type.IntegerNegative text = number_if (λ number. int_lt number (pos 0)) (integer_of text)
number_of value_type.IntegerZeroOrPositive text = number_if (int_le (pos 0)) (integer_of text)
number_of value_type.Percentage text = number_if (is_up_to (pos 100000000)) (decimal_of text)
number_of value_type.UnitInterval text = number_if (is_up_to (pos 1000000)) (decimal_of text)
number_of value_type.Boolean text = boolean_of text
number_of value_type.TrueOnly text = truth_of text
number_of value_type.Date text = None
number_of value_type.Text text = None

-- a text of 1 to 1,024 bytes
unfoldable pub is_short : List ℕ → Bool
is_short text = nat_le 1 (length text) && nat_le (length text) 1024

-- the text is a value of the type
abbrev pub fits : ValueType → List ℕ → Bool
fits value_type.Number text = is_some (decimal_of text)
fits value_type.Integer text = is_some (integer_of text)
fits value_type.IntegerPositive text = is_some (number_if (int_lt (pos 0)) (integer_of text))
fits value_type.IntegerNegative text = is_some (number_if (λ number. int_lt number (pos 0)) (integer_of text))
fits value_type.IntegerZeroOrPositive text = is_some (number_if (int_le (pos 0)) (integer_of text))
fits value_type.Percentage text = is_some (number_if (is_up_to (pos 100000000)) (decimal_of text))
fits value_type.UnitInterval text = is_some (number_if (is_up_to (pos 1000000)) (decimal_of text))
fits value_type.Boolean text = is_true text || is_false text
fits value_type.TrueOnly text = is_true text
fits value_type.Date text = is_some (civil_of text)
fits value_type.Text text = is_short text
