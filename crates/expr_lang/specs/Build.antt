-- The tree with given nodes.
use Rattle.std.specs.Prelude.{ℕ, List, [], ◌∷◌}
use Rattle.expr_lang.specs.declared.tree.Leaf.TheVariants as leaf
use Rattle.expr_lang.specs.declared.reading.Spot.{Spot}
use Rattle.expr_lang.specs.declared.reading.Node.{Node}
use Rattle.expr_lang.specs.declared.reading.Node.TheVariants as node
use Rattle.expr_lang.specs.Leaves.{leaf_of_node}
use Rattle.expr_lang.specs.Shape.{Shape, Operand, One, Two, Choice}

abbrev pub top_shape : List Shape → Shape
top_shape [] = Operand (leaf.Number 0)
top_shape (s ∷ ss) = s

abbrev pub under_shape : List Shape → List Shape
under_shape [] = []
under_shape (s ∷ ss) = ss

-- the stack after one more node
abbrev pub shapes_after : List ℕ → List (List ℕ) → ℕ → Node → List Shape → List Shape
shapes_after text days place (node.Unary operator) stack = One operator (top_shape stack) ∷ under_shape stack
shapes_after text days place (node.Binary operator) stack =
    Two operator (top_shape (under_shape stack)) (top_shape stack) ∷ under_shape (under_shape stack)
shapes_after text days place node.If stack =
    Choice (top_shape (under_shape (under_shape stack))) (top_shape (under_shape stack)) (top_shape stack)
    ∷ under_shape (under_shape (under_shape stack))
shapes_after text days place it stack = Operand (leaf_of_node text days place it) ∷ stack

abbrev pub shapes_behind : List ℕ → List (List ℕ) → List Spot → List Shape → List Shape
shapes_behind text days [] stack = stack
shapes_behind text days (spot ∷ spots) stack = shapes_behind text days spots (shapes_after text days spot.at spot.node stack)

-- the tree with these nodes, each of which stands after its operands
unfoldable pub built : List ℕ → List (List ℕ) → List Spot → Shape
built text days spots = top_shape (shapes_behind text days spots [])
