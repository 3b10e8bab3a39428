-- The value of a tree as it lies in memory, from which the compiler's code is made.
use Rattle.std.proofs.Common.{Bool, true, false, not, List, [], ◌∷◌, ◌++◌, Option, Some, None, Result, Ok}
use Rattle.std.specs.Prelude.{is_some, unwrap_or, if◌then◌else◌}
use Rattle.std.specs.Option.{option_or}
use Rattle.dh_base.specs.Fractions.{Fraction}
use Rattle.expr_lang.specs.declared.tree.Item.{Item}
use Rattle.expr_lang.specs.declared.tree.Leaf.TheVariants as leaf
use Rattle.expr_lang.specs.declared.tree.Unary.{Unary}
use Rattle.expr_lang.specs.declared.tree.Unary.TheVariants as unary
use Rattle.expr_lang.specs.declared.tree.Binary.{Binary}
use Rattle.expr_lang.specs.declared.tree.Binary.TheVariants as binary
use Rattle.expr_lang.specs.Shape.{Shape, Operand, One, Two, Choice}
use Rattle.expr_eval.specs.declared.value.Value.{Value}
use Rattle.expr_eval.specs.declared.value.Cell.{Cell}
use Rattle.expr_eval.specs.declared.value.Cell.TheVariants as cell
use Rattle.expr_eval.specs.Applied.{applied_one, applied_two}
use Rattle.expr_eval.specs.Meaning.{zero_fraction, literal_of, number_of, truth_of, then_with, best_of, leaf_value, chosen_value}

-- an item that is asked for, whether it is missing or not
abbrev pub asked : (Item → Option Fraction) → Shape → Bool
asked given (Operand (leaf.Item i)) = is_some (given i)
asked given (Operand (leaf.Day i)) = is_some (given i)
asked given _ = true

-- the first of a list of items and numbers that isn't missing
abbrev pub first_present : (Item → Option Fraction) → Shape → Option Fraction
first_present given (Two binary.Comma left right) = option_or (first_present given left) (first_present given right)
first_present given (Operand (leaf.Number n)) = Some (literal_of n)
first_present given (Operand (leaf.Item i)) = given i
first_present given _ = None

-- the value of an expression, and the values of a list of arguments
pub record Values : Type 0 where
  pub one : Result Cell Value
  pub all : Result (List Cell) Value

abbrev pub alone : Result Cell Value → Values
alone v = record { one = v; all = then_with v (λ c. Ok (c ∷ [])) }

abbrev pub valued_one : (Item → Option Fraction) → Unary → Shape → Values → Result Cell Value
valued_one given unary.IsNull operand v = Ok (cell.Truth (not (asked given operand)))
valued_one given unary.IsNotNull operand v = Ok (cell.Truth (asked given operand))
valued_one given unary.HasValue operand v = Ok (cell.Truth (asked given operand))
valued_one given unary.FirstNonNull operand v = Ok (cell.Number (unwrap_or (first_present given operand) zero_fraction))
valued_one given unary.Greatest operand v = then_with v.all (best_of true)
valued_one given unary.Least operand v = then_with v.all (best_of false)
valued_one given operator operand v = then_with v.one (applied_one operator)

-- `&&` and `||` stop early
abbrev pub valued_two : Binary → Result Cell Value → Result Cell Value → Result Cell Value
valued_two binary.And x y = then_with x (λ a. if truth_of a then y else Ok (cell.Truth false))
valued_two binary.Or x y = then_with x (λ a. if truth_of a then Ok (cell.Truth true) else y)
valued_two operator x y = then_with x (λ a. then_with y (λ b. applied_two operator (number_of a) (number_of b)))

-- a list of arguments has no value of its own
abbrev pub joined : Values → Values → Values
joined left right = record {
  one = Ok (cell.Number zero_fraction);
  all = then_with left.all (λ cs. then_with right.one (λ c. Ok (cs ++ c ∷ [])));
}

abbrev pub valued_pair : Binary → Values → Values → Values
valued_pair binary.Comma left right = joined left right
valued_pair operator left right = alone (valued_two operator left.one right.one)

abbrev pub values_of : (Item → Option Fraction) → Shape → Values
values_of given (Operand it) = alone (leaf_value given it)
values_of given (One operator operand) = alone (valued_one given operator operand (values_of given operand))
values_of given (Two operator left right) = valued_pair operator (values_of given left) (values_of given right)
values_of given (Choice test one other) =
    alone (chosen_value (values_of given test).one (values_of given one).one (values_of given other).one)
