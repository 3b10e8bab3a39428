-- What is taken by an expression, by its root.
use Rattle.std.proofs.Common.{◌≡◌, ◌∙◌, ℕ, ◌<◌, ◌-◌, List, length, get_or, Option, Some, None, refl, sym, ap}
use Rattle.std.specs.Prelude.{slice_get}
use Rattle.std.proofs.lemmas.Option.{slice_get_read}
use Rattle.expr_lang.specs.declared.tree.Item.{Item}
use Rattle.expr_lang.specs.declared.tree.Leaf.TheVariants as leaf
use Rattle.expr_lang.specs.declared.tree.Unary.{Unary}
use Rattle.expr_lang.specs.declared.tree.Unary.TheVariants as unary
use Rattle.expr_lang.specs.declared.tree.Binary.{Binary}
use Rattle.expr_lang.specs.declared.tree.Binary.TheVariants as binary
use Rattle.expr_lang.specs.declared.tree.Branch.{Branch}
use Rattle.expr_lang.specs.Branches.{item_shape, shape_in, tree_in}
use Rattle.expr_lang.specs.Shape.{Shape, One, Two}
use Rattle.expr_lang.specs.Stored.{syntax_of, trees_in, of_one, of_two}
use Rattle.expr_lang.specs.Syntax.{Syntax, Arguments, single}
use Rattle.expr_eval.proofs.Agreed.{IsSome, trees_some, too_many}
use Rattle.program_cells.specs.declared.measure.Measure.TheVariants as measure
use Rattle.program_cells.specs.Value.{measure_by, measure_of}

pub measure-item : (items : List Item) (k : ℕ) (x : Item) → k < length items → x ≡ get_or items k x
    → measure_of (syntax_of (item_shape (λ i. leaf.Item i) (slice_get items k))) ≡ measure_by x
measure-item items k x within is =
    ap (λ (o : Option Item). measure_of (syntax_of (item_shape (λ i. leaf.Item i) o))) (slice_get_read items (length items) k x refl within is)

pub measure-day : (o : Option Item) → measure_of (syntax_of (item_shape (λ i. leaf.Day i) o)) ≡ measure.Formula
measure-day (Some i) = refl
measure-day None = refl

one_is : (operator : Unary) (operand : Shape) (xs : Arguments) → measure_of (of_one operator operand xs) ≡ measure.Formula
one_is unary.Negate operand xs = refl
one_is unary.Not operand xs = refl
one_is (unary.Power n) operand xs = refl
one_is unary.IsNull operand xs = refl
one_is unary.IsNotNull operand xs = refl
one_is unary.FirstNonNull operand xs = refl
one_is unary.Greatest operand xs = refl
one_is unary.Least operand xs = refl
one_is unary.HasValue operand xs = refl
one_is unary.Zing operand xs = refl
one_is unary.Oizp operand xs = refl

pub measure-one : (operator : Unary) (operand : Shape) → measure_of (syntax_of (One operator operand)) ≡ measure.Formula
measure-one operator operand = one_is operator operand (trees_in operand)

two_is : (operator : Binary) (xs ys : Arguments) → IsSome xs → measure_of (single (of_two operator xs ys)) ≡ measure.Formula
two_is binary.Or xs ys some = refl
two_is binary.And xs ys some = refl
two_is binary.Equal xs ys some = refl
two_is binary.NotEqual xs ys some = refl
two_is binary.Less xs ys some = refl
two_is binary.AtMost xs ys some = refl
two_is binary.Greater xs ys some = refl
two_is binary.AtLeast xs ys some = refl
two_is binary.Add xs ys some = refl
two_is binary.Subtract xs ys some = refl
two_is binary.Multiply xs ys some = refl
two_is binary.Divide xs ys some = refl
two_is binary.Remainder xs ys some = refl
two_is binary.DaysBetween xs ys some = refl
two_is binary.Comma xs ys some = ap measure_of (too_many xs (single ys) some)

pub measure-two : (operator : Binary) (left right : Shape) → measure_of (syntax_of (Two operator left right)) ≡ measure.Formula
measure-two operator left right = two_is operator (trees_in left) (trees_in right) (trees_some left)

-- what a tree takes, by the node at its root
pub measure-root : (items own : List Item) (branches : List Branch) (tree : Syntax) (shape : Shape) → syntax_of (tree_in items branches) ≡ tree
    → own ≡ items → shape_in own branches (length branches - 1) ≡ shape → measure_of tree ≡ measure_of (syntax_of shape)
measure-root items own branches tree shape is same at =
    ap measure_of (sym is ∙ ap (λ l. syntax_of (tree_in l branches)) (sym same) ∙ ap syntax_of at)

pub measure-binary : (items own : List Item) (branches : List Branch) (tree : Syntax) (operator : Binary) (left right : Shape)
    → syntax_of (tree_in items branches) ≡ tree → own ≡ items → shape_in own branches (length branches - 1) ≡ Two operator left right
    → measure.Formula ≡ measure_of tree
measure-binary items own branches tree operator left right is same at =
    sym (measure-root items own branches tree (Two operator left right) is same at ∙ measure-two operator left right)
