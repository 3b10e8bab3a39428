-- A tree as a list of nodes, each of which stands after its operands.
use Rattle.std.specs.Prelude.{◌≡◌, ℕ, ◌-◌, ◌<◌, List, [], ◌∷◌, Option, Some, None, length, reverse, slice_get, nat_eq, if◌then◌else◌}
use Rattle.expr_lang.specs.declared.tree.Item.{Item}
use Rattle.expr_lang.specs.declared.tree.Leaf.{Leaf}
use Rattle.expr_lang.specs.declared.tree.Leaf.TheVariants as leaf
use Rattle.expr_lang.specs.declared.tree.Branch.{Branch}
use Rattle.expr_lang.specs.declared.tree.Branch.TheVariants as branch
use Rattle.expr_lang.specs.Shape.{Shape, Operand, One, Two, Choice}

-- the operand that the item at a place is
abbrev pub item_shape : (Item → Leaf) → Option Item → Shape
item_shape make (Some i) = Operand (make i)
item_shape make None = Operand (leaf.Number 0)

-- the tree of which a node is the root, from the trees at the places of its operands
abbrev pub branch_shape : List Item → (ℕ → Shape) → Branch → Shape
branch_shape items at (branch.Number n) = Operand (leaf.Number n)
branch_shape items at (branch.Item k) = item_shape (λ i. leaf.Item i) (slice_get items k)
branch_shape items at (branch.Day k) = item_shape (λ i. leaf.Day i) (slice_get items k)
branch_shape items at (branch.Unary operator x) = One operator (at x)
branch_shape items at (branch.Binary operator x y) = Two operator (at x) (at y)
branch_shape items at (branch.If x y z) = Choice (at x) (at y) (at z)

-- the tree at a place of a list of nodes, the newest first
abbrev pub shapes_from : List Item → List Branch → ℕ → Shape
shapes_from items [] n = Operand (leaf.Number 0)
shapes_from items (b ∷ older) n =
    if nat_eq n (length older) then branch_shape items (shapes_from items older) b else shapes_from items older n

-- the tree of which the node at a place is the root
unfoldable pub shape_in : List Item → List Branch → ℕ → Shape
shape_in items branches n = shapes_from items (reverse branches) n

-- the operands of a node at a place stand before it, and its item is one of so many
abbrev pub IsEarlier : ℕ → ℕ → Branch → Type 0
IsEarlier count n (branch.Number x) = Unit {0}
IsEarlier count n (branch.Item k) = k < count
IsEarlier count n (branch.Day k) = k < count
IsEarlier count n (branch.Unary operator x) = x < n
IsEarlier count n (branch.Binary operator x y) = (x < n) × (y < n)
IsEarlier count n (branch.If x y z) = (x < n) × (y < n) × (z < n)

abbrev pub AreEarlier : ℕ → List Branch → Type 0
AreEarlier count [] = Unit {0}
AreEarlier count (b ∷ older) = IsEarlier count (length older) b × AreEarlier count older

-- each node stands after its operands
unfoldable pub AreSound : ℕ → List Branch → Type 0
AreSound count branches = AreEarlier count (reverse branches)

-- no item stands at two places
unfoldable pub AreDifferent : List Item → Type 0
AreDifferent items = (j k : ℕ) (i : Item) → slice_get items j ≡ Some i → slice_get items k ≡ Some i → j ≡ k

-- the tree of which the last node is the root
abbrev pub tree_in : List Item → List Branch → Shape
tree_in items branches = shape_in items branches (length branches - 1)

-- what an expression is made of
pub record AreParts (branches : List Branch) (items : List Item) (places : List ℕ) : Type 0 where
  pub some : 0 < length branches
  pub sound : AreSound (length items) branches
  pub different : AreDifferent items
  pub paired : length items ≡ length places
