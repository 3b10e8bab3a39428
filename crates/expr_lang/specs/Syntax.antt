-- Expressions as trees: operands, operators between operands, and calls with their arguments.
use Rattle.std.specs.Prelude.{ℕ}
use Rattle.expr_lang.specs.declared.tree.Leaf.{Leaf}

-- `-x` and `!x`
pub data Sign : Type 0 where
  Minus : Sign
  Not : Sign

-- what stands between two operands
pub data Operator : Type 0 where
  Or : Operator
  And : Operator
  Equal : Operator
  NotEqual : Operator
  Less : Operator
  AtMost : Operator
  Greater : Operator
  AtLeast : Operator
  Add : Operator
  Subtract : Operator
  Multiply : Operator
  Divide : Operator
  Remainder : Operator

-- `d2:condition` is `if` with a quoted test
pub data Function : Type 0 where
  IsNull : Function
  IsNotNull : Function
  FirstNonNull : Function
  Greatest : Function
  Least : Function
  HasValue : Function
  Zing : Function
  Oizp : Function
  DaysBetween : Function
  If : Function

mutual
  pub data Syntax : Type 0 where
    Operand : Leaf → Syntax
    Signed : Sign → Syntax → Syntax
    Power : Syntax → ℕ → Syntax
    Between : Operator → Syntax → Syntax → Syntax
    Call : Function → Arguments → Syntax

  -- the arguments of a call, from the first to the last
  pub data Arguments : Type 0 where
    End : Arguments
    Argument : Syntax → Arguments → Arguments

abbrev pub alone : Syntax → Arguments
alone x = Argument x End

-- arguments, and more of them after these
abbrev pub and_more : Arguments → Arguments → Arguments
and_more End ys = ys
and_more (Argument x xs) ys = Argument x (and_more xs ys)

-- Several arguments where one is wanted, which no text has, stand as a call with too many.
abbrev pub single : Arguments → Syntax
single (Argument x End) = x
single xs = Call Zing xs
