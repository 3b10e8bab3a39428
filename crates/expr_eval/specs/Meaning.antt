-- What an expression means, by its tree.
--
-- An item is given as a number, or as nothing where it is missing; a day is given as the number of the day.
use Rattle.std.specs.Prelude.{ℕ, Bool, true, false, not, ◌&&◌, List, [], ◌∷◌, ◌++◌, Option, Some, None, Result, Ok, Err, pos, int_lt, is_some}
use Rattle.std.specs.Prelude.{is_none, unwrap_or, nat_lt, nat_le, length, if◌then◌else◌}
use Rattle.std.specs.Option.{option_or}
use Rattle.std.specs.List.{list_any, list_all}
use Rattle.std.specs.Ordering.{is_eq, is_lt, is_gt}
use Rattle.std.specs.declared.cmp.Ordering.{Ordering}
use Rattle.dh_base.specs.declared.plain.NumFault.{NumFault}
use Rattle.dh_base.specs.declared.plain.NumFault.TheVariants as fault
use Rattle.dh_base.specs.declared.plain.Strategy.{Strategy}
use Rattle.dh_base.specs.declared.plain.Strategy.TheVariants as strategy
use Rattle.dh_base.specs.Fractions.{Fraction, fraction_of, add_of, sub_of, mul_of, div_of, rem_of, pow_of, cmp_of}
use Rattle.expr_lang.specs.declared.tree.Item.{Item}
use Rattle.expr_lang.specs.declared.tree.Item.TheVariants as item
use Rattle.expr_lang.specs.declared.tree.Leaf.{Leaf}
use Rattle.expr_lang.specs.declared.tree.Leaf.TheVariants as leaf
use Rattle.expr_lang.specs.Syntax as syntax
use Rattle.expr_lang.specs.Syntax.{Syntax, Arguments, End, Argument, Operand, Signed, Power, Between, Call}
use Rattle.expr_eval.specs.declared.value.Value.{Value}
use Rattle.expr_eval.specs.declared.value.Value.TheVariants as value
use Rattle.expr_eval.specs.declared.value.Cell.{Cell}
use Rattle.expr_eval.specs.declared.value.Cell.TheVariants as cell

abbrev pub zero_fraction : Fraction
zero_fraction = fraction_of (pos 0) 1

abbrev pub one_fraction : Fraction
one_fraction = fraction_of (pos 1) 1

-- millionths as a number
abbrev pub literal_of : ℕ → Fraction
literal_of millionths = fraction_of (pos millionths) 1000000

-- a truth in a number's place counts as 0, and a number in a truth's place as false; no expression that is read has one
abbrev pub number_of : Cell → Fraction
number_of (cell.Number f) = f
number_of (cell.Truth b) = zero_fraction

abbrev pub truth_of : Cell → Bool
truth_of (cell.Number f) = false
truth_of (cell.Truth b) = b

-- the value that a fault of the arithmetic makes
abbrev pub value_of_fault : NumFault → Value
value_of_fault fault.Wide = value.Wide
value_of_fault fault.ByZero = value.ByZero

abbrev pub number_cell : Result Fraction NumFault → Result Cell Value
number_cell (Ok f) = Ok (cell.Number f)
number_cell (Err e) = Err (value_of_fault e)

-- the first that isn't a value in order, or what the next step makes of the value
abbrev pub then_with : {A B : Type 0} → Result A Value → (A → Result B Value) → Result B Value
then_with (Ok x) next = next x
then_with (Err v) next = Err v

abbrev pub is_less_than_zero : Fraction → Bool
is_less_than_zero f = int_lt f.num (pos 0)

-- an exponent above 64, which no expression that is read has, counts as 64
abbrev pub capped : ℕ → ℕ
capped n = if nat_le n 64 then n else 64

abbrev pub truth_cell : (Ordering → Bool) → Result Ordering NumFault → Result Cell Value
truth_cell test (Ok o) = Ok (cell.Truth (test o))
truth_cell test (Err e) = Err (value_of_fault e)

-- the one of two numbers that is taken by how they compare, the first where they are equal
abbrev pub takes_next : Bool → Ordering → Bool
takes_next greatest o = if greatest then is_lt o else is_gt o

abbrev pub taken_of : Bool → Fraction → Fraction → Result Ordering NumFault → Result Fraction Value
taken_of greatest best next (Ok o) = Ok (if takes_next greatest o then next else best)
taken_of greatest best next (Err e) = Err (value_of_fault e)

abbrev pub chosen_of : Bool → Fraction → Fraction → Result Fraction Value
chosen_of greatest best next = taken_of greatest best next (cmp_of best next)

-- the greatest or the least of numbers, compared from left to right
abbrev pub best_from : Bool → Fraction → List Cell → Result Cell Value
best_from greatest best [] = Ok (cell.Number best)
best_from greatest best (c ∷ cs) = then_with (chosen_of greatest best (number_of c)) (λ b. best_from greatest b cs)

abbrev pub best_of : Bool → List Cell → Result Cell Value
best_of greatest [] = Ok (cell.Number zero_fraction)
best_of greatest (c ∷ cs) = best_from greatest (number_of c) cs

-- ---- operands

abbrev pub day_value : Option Fraction → Result Cell Value
day_value (Some f) = Ok (cell.Number f)
day_value None = Err value.Missing

abbrev pub leaf_value : (Item → Option Fraction) → Leaf → Result Cell Value
leaf_value given (leaf.Number n) = Ok (cell.Number (literal_of n))
leaf_value given (leaf.Item i) = Ok (cell.Number (unwrap_or (given i) zero_fraction))
leaf_value given (leaf.Day i) = day_value (given i)

-- ---- operators

abbrev pub signed : syntax.Sign → Cell → Result Cell Value
signed syntax.Minus x = number_cell (sub_of zero_fraction (number_of x))
signed syntax.Not x = Ok (cell.Truth (not (truth_of x)))

-- two values, of which the first that isn't one stops the evaluation
abbrev pub calculated : (Fraction → Fraction → Result Fraction NumFault) → Result Cell Value → Result Cell Value → Result Cell Value
calculated f x y = then_with x (λ a. then_with y (λ b. number_cell (f (number_of a) (number_of b))))

abbrev pub compared_by : (Ordering → Bool) → Result Cell Value → Result Cell Value → Result Cell Value
compared_by test x y = then_with x (λ a. then_with y (λ b. truth_cell test (cmp_of (number_of a) (number_of b))))

-- `&&` and `||` stop early
abbrev pub value_between : syntax.Operator → Result Cell Value → Result Cell Value → Result Cell Value
value_between syntax.Or x y = then_with x (λ a. if truth_of a then Ok (cell.Truth true) else y)
value_between syntax.And x y = then_with x (λ a. if truth_of a then y else Ok (cell.Truth false))
value_between syntax.Equal x y = compared_by is_eq x y
value_between syntax.NotEqual x y = compared_by (λ o. not (is_eq o)) x y
value_between syntax.Less x y = compared_by is_lt x y
value_between syntax.AtMost x y = compared_by (λ o. not (is_gt o)) x y
value_between syntax.Greater x y = compared_by is_gt x y
value_between syntax.AtLeast x y = compared_by (λ o. not (is_lt o)) x y
value_between syntax.Add x y = calculated add_of x y
value_between syntax.Subtract x y = calculated sub_of x y
value_between syntax.Multiply x y = calculated mul_of x y
value_between syntax.Divide x y = calculated div_of x y
value_between syntax.Remainder x y = calculated rem_of x y

-- ---- calls

-- only an item can be missing
abbrev pub is_there : (Item → Option Fraction) → Syntax → Bool
is_there given (Operand (leaf.Item i)) = is_some (given i)
is_there given (Operand (leaf.Day i)) = is_some (given i)
is_there given _ = true

-- the number of an item that isn't missing, or a number as it stands
abbrev pub present : (Item → Option Fraction) → Syntax → Option Fraction
present given (Operand (leaf.Number n)) = Some (literal_of n)
present given (Operand (leaf.Item i)) = given i
present given _ = None

abbrev pub first_present : (Item → Option Fraction) → Arguments → Option Fraction
first_present given End = None
first_present given (Argument x xs) = option_or (present given x) (first_present given xs)

-- all values, or the first that isn't one
abbrev pub in_order : List (Result Cell Value) → Result (List Cell) Value
in_order [] = Ok []
in_order (v ∷ vs) = then_with v (λ c. then_with (in_order vs) (λ cs. Ok (c ∷ cs)))

abbrev pub zing : Fraction → Fraction
zing f = if is_less_than_zero f then zero_fraction else f

abbrev pub oizp : Fraction → Fraction
oizp f = if is_less_than_zero f then zero_fraction else one_fraction

-- `if` takes the value of the chosen branch alone
abbrev pub chosen_value : Result Cell Value → Result Cell Value → Result Cell Value → Result Cell Value
chosen_value test one other = then_with test (λ t. if truth_of t then one else other)

-- The value of a call with these arguments, whose values are these. One with another number of arguments, which no text has,
-- counts as 0.
abbrev pub called : (Item → Option Fraction) → syntax.Function → Arguments → List (Result Cell Value) → Result Cell Value
called given syntax.IsNull (Argument x End) vs = Ok (cell.Truth (not (is_there given x)))
called given syntax.IsNotNull (Argument x End) vs = Ok (cell.Truth (is_there given x))
called given syntax.HasValue (Argument x End) vs = Ok (cell.Truth (is_there given x))
called given syntax.FirstNonNull xs vs = Ok (cell.Number (unwrap_or (first_present given xs) zero_fraction))
called given syntax.Greatest xs vs = then_with (in_order vs) (best_of true)
called given syntax.Least xs vs = then_with (in_order vs) (best_of false)
called given syntax.Zing xs (v ∷ []) = then_with v (λ c. Ok (cell.Number (zing (number_of c))))
called given syntax.Oizp xs (v ∷ []) = then_with v (λ c. Ok (cell.Number (oizp (number_of c))))
called given syntax.DaysBetween xs (v ∷ w ∷ []) = calculated (λ from to. sub_of to from) v w
called given syntax.If xs (v ∷ w ∷ u ∷ []) = chosen_value v w u
called given _ xs vs = Ok (cell.Number zero_fraction)

-- ---- expressions

abbrev mutual
  -- its value
  pub value_of : (Item → Option Fraction) → Syntax → Result Cell Value
  value_of given (Operand it) = leaf_value given it
  value_of given (Signed sign x) = then_with (value_of given x) (signed sign)
  value_of given (Power x n) = then_with (value_of given x) (λ c. number_cell (pow_of (number_of c) (capped n)))
  value_of given (Between operator x y) = value_between operator (value_of given x) (value_of given y)
  value_of given (Call function xs) = called given function xs (values_of given xs)

  pub values_of : (Item → Option Fraction) → Arguments → List (Result Cell Value)
  values_of given End = []
  values_of given (Argument x xs) = value_of given x ∷ values_of given xs

-- ---- missing values

-- only an element and a rate can be missing
abbrev pub can_miss : Item → Bool
can_miss (item.Element element combo attribute) = true
can_miss (item.Rate set rate) = true
can_miss _ = false

abbrev pub plain_leaf : Leaf → List Item
plain_leaf (leaf.Item i) = if can_miss i then i ∷ [] else []
plain_leaf _ = []

abbrev pub hides : syntax.Function → Bool
hides syntax.IsNull = true
hides syntax.IsNotNull = true
hides syntax.FirstNonNull = true
hides syntax.HasValue = true
hides _ = false

abbrev mutual
  -- the plain items: those that can be missing, outside of `isNull`, `isNotNull`, `firstNonNull` and `d2:hasValue`
  pub plain_of : Syntax → List Item
  plain_of (Operand it) = plain_leaf it
  plain_of (Signed sign x) = plain_of x
  plain_of (Power x n) = plain_of x
  plain_of (Between operator x y) = plain_of x ++ plain_of y
  plain_of (Call function xs) = if hides function then [] else plain_of_all xs

  pub plain_of_all : Arguments → List Item
  plain_of_all End = []
  plain_of_all (Argument x xs) = plain_of x ++ plain_of_all xs

-- whether the value is Missing for those of the plain items that are
abbrev pub skips : {A : Type 0} → Strategy → (A → Bool) → List A → Bool
skips strategy.SkipIfAny is_missing plain = list_any is_missing plain
skips strategy.SkipIfAll is_missing plain = nat_lt 0 (length plain) && list_all is_missing plain
skips strategy.Never is_missing plain = false

abbrev pub value_of_cell : Result Cell Value → Value
value_of_cell (Ok (cell.Number f)) = value.Number f
value_of_cell (Ok (cell.Truth b)) = value.Truth b
value_of_cell (Err v) = v

-- the value of an expression by its tree, under a missing-value strategy
unfoldable pub meaning : Strategy → (Item → Option Fraction) → Syntax → Value
meaning s given tree = if skips s (λ i. is_none (given i)) (plain_of tree) then value.Missing else value_of_cell (value_of given tree)
