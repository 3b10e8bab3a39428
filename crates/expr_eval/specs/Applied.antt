-- What the instructions of the machine do with values.
use Rattle.std.specs.Prelude.{Bool, true, false, not, List, [], ◌++◌, Result, Ok, if◌then◌else◌}
use Rattle.std.specs.Ordering.{is_eq, is_lt, is_gt}
use Rattle.std.specs.declared.cmp.Ordering.{Ordering}
use Rattle.dh_base.specs.Fractions.{Fraction, add_of, sub_of, mul_of, div_of, rem_of, pow_of, cmp_of}
use Rattle.expr_lang.specs.declared.tree.Item.{Item}
use Rattle.expr_lang.specs.declared.tree.Unary.{Unary}
use Rattle.expr_lang.specs.declared.tree.Unary.TheVariants as unary
use Rattle.expr_lang.specs.declared.tree.Binary.{Binary}
use Rattle.expr_lang.specs.declared.tree.Binary.TheVariants as binary
use Rattle.expr_lang.specs.Shape.{Shape, Operand, One, Two, Choice}
use Rattle.expr_eval.specs.declared.value.Value.{Value}
use Rattle.expr_eval.specs.declared.value.Cell.{Cell}
use Rattle.expr_eval.specs.declared.value.Cell.TheVariants as cell
use Rattle.expr_eval.specs.Meaning.{zero_fraction, one_fraction, number_of, truth_of, number_cell, is_less_than_zero, capped}
use Rattle.expr_eval.specs.Meaning.{truth_cell, plain_leaf}

-- the signs, the power and the calls of one number
abbrev pub applied_one : Unary → Cell → Result Cell Value
applied_one unary.Negate x = number_cell (sub_of zero_fraction (number_of x))
applied_one unary.Not x = Ok (cell.Truth (not (truth_of x)))
applied_one (unary.Power n) x = number_cell (pow_of (number_of x) (capped n))
applied_one unary.Zing x = Ok (cell.Number (if is_less_than_zero (number_of x) then zero_fraction else number_of x))
applied_one unary.Oizp x = Ok (cell.Number (if is_less_than_zero (number_of x) then zero_fraction else one_fraction))
applied_one _ x = Ok x

abbrev pub comparison_test : Binary → Ordering → Bool
comparison_test binary.Equal o = is_eq o
comparison_test binary.NotEqual o = not (is_eq o)
comparison_test binary.Less o = is_lt o
comparison_test binary.AtMost o = not (is_gt o)
comparison_test binary.Greater o = is_gt o
comparison_test _ o = not (is_lt o)

abbrev pub compared : Binary → Fraction → Fraction → Result Cell Value
compared operator x y = truth_cell (comparison_test operator) (cmp_of x y)

-- an operator of two numbers
abbrev pub applied_two : Binary → Fraction → Fraction → Result Cell Value
applied_two binary.Equal x y = compared binary.Equal x y
applied_two binary.NotEqual x y = compared binary.NotEqual x y
applied_two binary.Less x y = compared binary.Less x y
applied_two binary.AtMost x y = compared binary.AtMost x y
applied_two binary.Greater x y = compared binary.Greater x y
applied_two binary.AtLeast x y = compared binary.AtLeast x y
applied_two binary.Add x y = number_cell (add_of x y)
applied_two binary.Subtract x y = number_cell (sub_of x y)
applied_two binary.Multiply x y = number_cell (mul_of x y)
applied_two binary.Divide x y = number_cell (div_of x y)
applied_two binary.Remainder x y = number_cell (rem_of x y)
applied_two binary.DaysBetween x y = number_cell (sub_of y x)
applied_two _ x y = Ok (cell.Number y)

-- ---- the plain items of a tree in memory

abbrev pub hides_items : Unary → Bool
hides_items unary.IsNull = true
hides_items unary.IsNotNull = true
hides_items unary.FirstNonNull = true
hides_items unary.HasValue = true
hides_items _ = false

abbrev pub plain_items : Shape → List Item
plain_items (Operand it) = plain_leaf it
plain_items (One operator operand) = if hides_items operator then [] else plain_items operand
plain_items (Two operator left right) = plain_items left ++ plain_items right
plain_items (Choice test one other) = plain_items test ++ (plain_items one ++ plain_items other)
