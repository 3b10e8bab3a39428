-- How deep a tree is, and whether the sorts of its operands are those that are taken.
use Rattle.std.specs.Prelude.{ℕ, suc, Bool, true, ◌&&◌, max, Option, Some, None}
use Rattle.expr_lang.specs.declared.tree.Sort.{Sort}
use Rattle.expr_lang.specs.declared.tree.Sort.TheVariants as sort
use Rattle.expr_lang.specs.Survey.{same_sort, leaf_sort_of}
use Rattle.expr_lang.specs.Syntax as syntax
use Rattle.expr_lang.specs.Syntax.{Syntax, Arguments, End, Argument, Operand, Signed, Power, Between, Call}

abbrev mutual
  pub depth_of : Syntax → ℕ
  depth_of (Operand it) = 1
  depth_of (Signed sign x) = suc (depth_of x)
  depth_of (Power x n) = suc (depth_of x)
  depth_of (Between operator x y) = suc (max (depth_of x) (depth_of y))
  depth_of (Call function xs) = suc (deepest_of xs)

  pub deepest_of : Arguments → ℕ
  deepest_of End = 0
  deepest_of (Argument x xs) = max (depth_of x) (deepest_of xs)

-- the sort of a value
abbrev pub sort_signed : syntax.Sign → Sort
sort_signed syntax.Minus = sort.Number
sort_signed syntax.Not = sort.Truth

abbrev pub sort_between : syntax.Operator → Sort
sort_between syntax.Add = sort.Number
sort_between syntax.Subtract = sort.Number
sort_between syntax.Multiply = sort.Number
sort_between syntax.Divide = sort.Number
sort_between syntax.Remainder = sort.Number
sort_between _ = sort.Truth

abbrev pub sort_called : syntax.Function → Sort
sort_called syntax.IsNull = sort.Truth
sort_called syntax.IsNotNull = sort.Truth
sort_called syntax.HasValue = sort.Truth
sort_called _ = sort.Number

abbrev pub sort_of : Syntax → Sort
sort_of (Operand it) = leaf_sort_of it
sort_of (Signed sign x) = sort_signed sign
sort_of (Power x n) = sort.Number
sort_of (Between operator x y) = sort_between operator
sort_of (Call function xs) = sort_called function

-- The sort that operands have to have: those of a sign, of an operator, and the arguments of a call, where it isn't any. The
-- first argument of `if` is a truth.
abbrev pub taken_signed : syntax.Sign → Sort
taken_signed syntax.Minus = sort.Number
taken_signed syntax.Not = sort.Truth

abbrev pub taken_between : syntax.Operator → Sort
taken_between syntax.Or = sort.Truth
taken_between syntax.And = sort.Truth
taken_between _ = sort.Number

abbrev pub taken_called : syntax.Function → Option Sort
taken_called syntax.IsNull = None
taken_called syntax.IsNotNull = None
taken_called syntax.HasValue = None
taken_called syntax.DaysBetween = Some sort.Day
taken_called _ = Some sort.Number

-- whether a tree has a sort, where one is wanted
abbrev pub has_sort : Option Sort → Syntax → Bool
has_sort (Some wanted) tree = same_sort (sort_of tree) wanted
has_sort None tree = true

-- whether each operand has the sort that is taken there
abbrev mutual
  pub sorts_fit : Syntax → Bool
  sorts_fit (Operand it) = true
  sorts_fit (Signed sign x) = has_sort (Some (taken_signed sign)) x && sorts_fit x
  sorts_fit (Power x n) = has_sort (Some sort.Number) x && sorts_fit x
  sorts_fit (Between operator x y) =
      (has_sort (Some (taken_between operator)) x && sorts_fit x) && (has_sort (Some (taken_between operator)) y && sorts_fit y)
  sorts_fit (Call syntax.If (Argument test xs)) = (has_sort (Some sort.Truth) test && sorts_fit test) && all_fit (Some sort.Number) xs
  sorts_fit (Call function xs) = all_fit (taken_called function) xs

  pub all_fit : Option Sort → Arguments → Bool
  all_fit taken End = true
  all_fit taken (Argument x xs) = (has_sort taken x && sorts_fit x) && all_fit taken xs
