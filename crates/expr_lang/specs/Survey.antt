-- The depth of a tree, and the first place whose sorts don't fit.
use Rattle.std.specs.Prelude.{ℕ, ◌+◌, min, max, Bool, true, false, List, [], ◌∷◌, Option, Some, None, nat_lt, if◌then◌else◌}
use Rattle.expr_lang.specs.declared.tree.Leaf.{Leaf}
use Rattle.expr_lang.specs.declared.tree.Leaf.TheVariants as leaf
use Rattle.expr_lang.specs.declared.tree.Unary.{Unary}
use Rattle.expr_lang.specs.declared.tree.Unary.TheVariants as unary
use Rattle.expr_lang.specs.declared.tree.Binary.{Binary}
use Rattle.expr_lang.specs.declared.tree.Binary.TheVariants as binary
use Rattle.expr_lang.specs.declared.tree.Sort.{Sort}
use Rattle.expr_lang.specs.declared.tree.Sort.TheVariants as sort
use Rattle.expr_lang.specs.declared.reading.Spot.{Spot}
use Rattle.expr_lang.specs.declared.reading.Node.{Node}
use Rattle.expr_lang.specs.declared.reading.Node.TheVariants as node
use Rattle.expr_lang.specs.declared.survey.Known.{Known}
use Rattle.expr_lang.specs.Leaves.{leaf_of_node}

abbrev pub same_sort : Sort → Sort → Bool
same_sort sort.Number sort.Number = true
same_sort sort.Truth sort.Truth = true
same_sort sort.Day sort.Day = true
same_sort _ _ = false

abbrev pub leaf_sort_of : Leaf → Sort
leaf_sort_of (leaf.Number n) = sort.Number
leaf_sort_of (leaf.Item i) = sort.Number
leaf_sort_of (leaf.Day i) = sort.Day

abbrev pub is_literal_of : Leaf → Bool
is_literal_of (leaf.Number n) = true
is_literal_of (leaf.Item i) = false
is_literal_of (leaf.Day i) = false

-- the sort that an operator takes, where it isn't any
abbrev pub taken_by_of : Unary → Option Sort
taken_by_of unary.Not = Some sort.Truth
taken_by_of unary.IsNull = None
taken_by_of unary.IsNotNull = None
taken_by_of unary.HasValue = None
taken_by_of _ = Some sort.Number

abbrev pub given_by_of : Unary → Sort
given_by_of unary.Not = sort.Truth
given_by_of unary.IsNull = sort.Truth
given_by_of unary.IsNotNull = sort.Truth
given_by_of unary.HasValue = sort.Truth
given_by_of _ = sort.Number

abbrev pub taken_by_two : Binary → Sort
taken_by_two binary.Or = sort.Truth
taken_by_two binary.And = sort.Truth
taken_by_two binary.DaysBetween = sort.Day
taken_by_two _ = sort.Number

abbrev pub given_by_two : Binary → Sort
given_by_two binary.Or = sort.Truth
given_by_two binary.And = sort.Truth
given_by_two binary.Equal = sort.Truth
given_by_two binary.NotEqual = sort.Truth
given_by_two binary.Less = sort.Truth
given_by_two binary.AtMost = sort.Truth
given_by_two binary.Greater = sort.Truth
given_by_two binary.AtLeast = sort.Truth
given_by_two _ = sort.Number

-- the first of two places that may be there
abbrev pub first_of_two : Option ℕ → Option ℕ → Option ℕ
first_of_two (Some x) (Some y) = Some (min x y)
first_of_two (Some x) None = Some x
first_of_two None other = other

-- where an operand is taken at another sort than its own, neither the place of what takes it fits nor, unless it is a
-- number that is written out, its own
abbrev pub edge_of : ℕ → Sort → Known → Option ℕ
edge_of place taken operand =
    if same_sort operand.sort taken then None else (if operand.literal then Some place else Some (min place operand.at))

abbrev pub leaf_known_of : ℕ → Leaf → Known
leaf_known_of place it = record { depth = 1; sort = leaf_sort_of it; at = place; literal = is_literal_of it; misfit = None }

-- one level deeper, counting up to 513
abbrev pub one_deeper : ℕ → ℕ
one_deeper depth = if nat_lt depth 513 then depth + 1 else depth

abbrev pub edge_if_taken : ℕ → Option Sort → Known → Option ℕ
edge_if_taken place (Some taken) operand = edge_of place taken operand
edge_if_taken place None operand = None

abbrev pub unary_known_of : ℕ → Unary → Known → Known
unary_known_of place operator operand = record {
  depth = one_deeper operand.depth;
  sort = given_by_of operator;
  at = place;
  literal = false;
  misfit = first_of_two (edge_if_taken place (taken_by_of operator) operand) operand.misfit;
}

-- a list of arguments is as deep as the deepest of them
abbrev pub deeper_of : Binary → ℕ → ℕ
deeper_of binary.Comma depth = depth
deeper_of _ depth = one_deeper depth

abbrev pub binary_known_of : ℕ → Binary → Known → Known → Known
binary_known_of place operator left right = record {
  depth = deeper_of operator (max left.depth right.depth);
  sort = given_by_two operator;
  at = place;
  literal = false;
  misfit = first_of_two
      (first_of_two (edge_of place (taken_by_two operator) left) (edge_of place (taken_by_two operator) right))
      (first_of_two left.misfit right.misfit);
}

abbrev pub if_known_of : ℕ → Known → Known → Known → Known
if_known_of place test one other = record {
  depth = one_deeper (max (max test.depth one.depth) other.depth);
  sort = sort.Number;
  at = place;
  literal = false;
  misfit = first_of_two
      (first_of_two (edge_of place sort.Truth test) (first_of_two (edge_of place sort.Number one) (edge_of place sort.Number other)))
      (first_of_two test.misfit (first_of_two one.misfit other.misfit));
}

abbrev pub nothing_known : Known
nothing_known = record { depth = 0; sort = sort.Number; at = 0; literal = false; misfit = None }

abbrev pub topmost : List Known → Known
topmost [] = nothing_known
topmost (k ∷ ks) = k

abbrev pub below : List Known → List Known
below [] = []
below (k ∷ ks) = ks

-- the operands on a stack, the last on top, after one more node
abbrev pub known_after : List ℕ → List (List ℕ) → ℕ → Node → List Known → List Known
known_after text days place (node.Unary operator) stack = unary_known_of place operator (topmost stack) ∷ below stack
known_after text days place (node.Binary operator) stack =
    binary_known_of place operator (topmost (below stack)) (topmost stack) ∷ below (below stack)
known_after text days place node.If stack =
    if_known_of place (topmost (below (below stack))) (topmost (below stack)) (topmost stack) ∷ below (below (below stack))
known_after text days place it stack = leaf_known_of place (leaf_of_node text days place it) ∷ stack

abbrev pub known_behind : List ℕ → List (List ℕ) → List Spot → List Known → List Known
known_behind text days [] stack = stack
known_behind text days (spot ∷ spots) stack = known_behind text days spots (known_after text days spot.at spot.node stack)

-- what is known of the tree with these nodes
unfoldable pub survey_of : List ℕ → List (List ℕ) → List Spot → Known
survey_of text days spots = topmost (known_behind text days spots [])

-- the first place that doesn't fit where the whole has to have a sort, or may have any
abbrev pub misfit_of : Known → Option Sort → Option ℕ
misfit_of known None = known.misfit
misfit_of known (Some wanted) = if same_sort known.sort wanted then known.misfit else first_of_two known.misfit (Some known.at)
