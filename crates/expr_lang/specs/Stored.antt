-- The tree that an expression has, from how it lies in memory.
--
-- There a call of one function is a unary operator, and its arguments are a chain of commas. What lies so and is of no text, as a
-- comma outside of a call's arguments, gets a tree that no text has either: one with a wrong number of arguments.
use Rattle.expr_lang.specs.declared.tree.Unary.{Unary}
use Rattle.expr_lang.specs.declared.tree.Unary.TheVariants as unary
use Rattle.expr_lang.specs.declared.tree.Binary.{Binary}
use Rattle.expr_lang.specs.declared.tree.Binary.TheVariants as binary
use Rattle.expr_lang.specs.Shape.{Shape, Operand, One, Two, Choice}
use Rattle.expr_lang.specs.Syntax as syntax
use Rattle.expr_lang.specs.Syntax.{Syntax, Arguments, End, Argument, alone, and_more, single}

abbrev pub no_call : Syntax
no_call = syntax.Call syntax.Zing End

-- commas after a comma are of no text
abbrev pub after_comma : Shape → Arguments → Arguments
after_comma (Two binary.Comma left right) xs = Argument no_call xs
after_comma _ xs = xs

-- the items and numbers that `firstNonNull` takes
abbrev pub plain_arguments : Shape → Arguments
plain_arguments (Operand it) = alone (syntax.Operand it)
plain_arguments (Two binary.Comma left right) = and_more (plain_arguments left) (after_comma right (plain_arguments right))
plain_arguments _ = alone no_call

abbrev pub of_one : Unary → Shape → Arguments → Syntax
of_one unary.Negate operand xs = syntax.Signed syntax.Minus (single xs)
of_one unary.Not operand xs = syntax.Signed syntax.Not (single xs)
of_one (unary.Power n) operand xs = syntax.Power (single xs) n
of_one unary.IsNull operand xs = syntax.Call syntax.IsNull (alone (single xs))
of_one unary.IsNotNull operand xs = syntax.Call syntax.IsNotNull (alone (single xs))
of_one unary.FirstNonNull operand xs = syntax.Call syntax.FirstNonNull (plain_arguments operand)
of_one unary.Greatest operand xs = syntax.Call syntax.Greatest xs
of_one unary.Least operand xs = syntax.Call syntax.Least xs
of_one unary.HasValue operand xs = syntax.Call syntax.HasValue (alone (single xs))
of_one unary.Zing operand xs = syntax.Call syntax.Zing (alone (single xs))
of_one unary.Oizp operand xs = syntax.Call syntax.Oizp (alone (single xs))

abbrev pub between : syntax.Operator → Arguments → Arguments → Arguments
between operator xs ys = alone (syntax.Between operator (single xs) (single ys))

abbrev pub of_two : Binary → Arguments → Arguments → Arguments
of_two binary.Or xs ys = between syntax.Or xs ys
of_two binary.And xs ys = between syntax.And xs ys
of_two binary.Equal xs ys = between syntax.Equal xs ys
of_two binary.NotEqual xs ys = between syntax.NotEqual xs ys
of_two binary.Less xs ys = between syntax.Less xs ys
of_two binary.AtMost xs ys = between syntax.AtMost xs ys
of_two binary.Greater xs ys = between syntax.Greater xs ys
of_two binary.AtLeast xs ys = between syntax.AtLeast xs ys
of_two binary.Add xs ys = between syntax.Add xs ys
of_two binary.Subtract xs ys = between syntax.Subtract xs ys
of_two binary.Multiply xs ys = between syntax.Multiply xs ys
of_two binary.Divide xs ys = between syntax.Divide xs ys
of_two binary.Remainder xs ys = between syntax.Remainder xs ys
of_two binary.DaysBetween xs ys = alone (syntax.Call syntax.DaysBetween (Argument (single xs) (alone (single ys))))
of_two binary.Comma xs ys = and_more xs (alone (single ys))

-- one tree, or those of a list of arguments
abbrev pub trees_in : Shape → Arguments
trees_in (Operand it) = alone (syntax.Operand it)
trees_in (One operator operand) = alone (of_one operator operand (trees_in operand))
trees_in (Two operator left right) = of_two operator (trees_in left) (trees_in right)
trees_in (Choice test one other) =
    alone (syntax.Call syntax.If (Argument (single (trees_in test)) (Argument (single (trees_in one)) (alone (single (trees_in other))))))

abbrev pub syntax_of : Shape → Syntax
syntax_of shape = single (trees_in shape)
