-- What is made of nodes one by one: branches, items, and operands that wait for their operators.
use Rattle.std.specs.Prelude.{◌≡◌, ℕ, ◌+◌, ◌<◌, List, [], ◌∷◌, ◌++◌, length, map, slice_index}
use Rattle.expr_lang.specs.declared.tree.Item.{Item}
use Rattle.expr_lang.specs.declared.tree.Item.TheVariants as item
use Rattle.expr_lang.specs.declared.tree.Leaf.{Leaf}
use Rattle.expr_lang.specs.declared.tree.Leaf.TheVariants as leaf
use Rattle.expr_lang.specs.declared.tree.Unary.{Unary}
use Rattle.expr_lang.specs.declared.tree.Binary.{Binary}
use Rattle.expr_lang.specs.declared.tree.Branch.{Branch}
use Rattle.expr_lang.specs.declared.tree.Branch.TheVariants as branch
use Rattle.expr_lang.specs.declared.reading.Node.{Node}
use Rattle.expr_lang.specs.declared.survey.Known.{Known}
use Rattle.expr_lang.specs.declared.build.Waiting.{Waiting}
use Rattle.expr_lang.specs.declared.build.Making.{Making}
use Rattle.expr_lang.specs.Branches.{branch_shape, shape_in, IsEarlier, AreSound, AreDifferent}
use Rattle.expr_lang.specs.Build.{shapes_after}
use Rattle.expr_lang.specs.Items.{item_of_leaf_of, ListsOne}
use Rattle.expr_lang.specs.Leaves.{leaf_of_node}
use Rattle.expr_lang.specs.Shape.{Shape, Operand}
use Rattle.expr_lang.specs.Survey.{leaf_known_of, unary_known_of, binary_known_of, if_known_of, nothing_known, known_after}

abbrev pub top_waiting : List Waiting → Waiting
top_waiting [] = record { known = nothing_known; node = 0 }
top_waiting (w ∷ ws) = w

abbrev pub under_waiting : List Waiting → List Waiting
under_waiting [] = []
under_waiting (w ∷ ws) = ws

-- what is known of each, and its tree
abbrev pub knowns : List Waiting → List Known
knowns stack = map (λ w. w.known) stack

abbrev pub shapes_on : List Item → List Branch → List Waiting → List Shape
shapes_on items branches stack = map (λ w. shape_in items branches w.node) stack

-- ---- one node more

-- a branch at the end, which waits in place of its operands
abbrev pub with_top : Known → Branch → List Waiting → Making → Making
with_top known b stack making = record making {
  branches = making.branches ++ b ∷ [];
  stack = record { known = known; node = length making.branches } ∷ stack;
}

abbrev pub with_branch : Known → Branch → Making → Making
with_branch known b making = with_top known b making.stack making

abbrev pub with_unary : ℕ → Unary → Making → Making
with_unary at operator making =
    with_top (unary_known_of at operator (top_waiting making.stack).known) (branch.Unary operator (top_waiting making.stack).node) (under_waiting making.stack)
    making

abbrev pub with_binary : ℕ → Binary → Making → Making
with_binary at operator making =
    with_top (binary_known_of at operator (top_waiting (under_waiting making.stack)).known (top_waiting making.stack).known)
    (branch.Binary operator (top_waiting (under_waiting making.stack)).node (top_waiting making.stack).node) (under_waiting (under_waiting making.stack)) making

abbrev pub with_choice : ℕ → Making → Making
with_choice at making =
    with_top
    (if_known_of at (top_waiting (under_waiting (under_waiting making.stack))).known (top_waiting (under_waiting making.stack)).known
    (top_waiting making.stack).known)
    (branch.If (top_waiting (under_waiting (under_waiting making.stack))).node (top_waiting (under_waiting making.stack)).node (top_waiting making.stack).node)
    (under_waiting (under_waiting (under_waiting making.stack))) making

abbrev pub new_making : Making
new_making = record { branches = branch.Number 0 ∷ []; items = []; places = []; stack = [] }

-- ---- what holds of what was made

abbrev pub AreWithin : ℕ → List Waiting → Type 0
AreWithin count [] = Unit {0}
AreWithin count (w ∷ ws) = (w.node < count) × AreWithin count ws

pub record IsMaking (making : Making) : Type 0 where
  pub missing : shape_in making.items making.branches 0 ≡ Operand (leaf.Number 0)
  pub sound : AreSound (length making.items) making.branches
  pub different : AreDifferent making.items
  pub paired : length making.items ≡ length making.places
  pub within : AreWithin (length making.branches) making.stack
  pub last : (top_waiting making.stack).node + 1 ≡ length making.branches

-- an operand is a node, and its item is among the items
pub record IsListed (it : Leaf) (at : ℕ) (items : List Item) (places : List ℕ) (new_items : List Item) (new_places : List ℕ) (b : Branch) : Type 0 where
  pub shape : (shapes : ℕ → Shape) → branch_shape new_items shapes b ≡ Operand it
  pub earlier : (n : ℕ) → IsEarlier (length new_items) n b
  pub listed : ListsOne (item_of_leaf_of it) at items places new_items new_places

-- what was made of one node more
pub record IsNext (text : List ℕ) (days : List (List ℕ)) (at : ℕ) (node : Node) (old : Making) (new : Making) : Type 0 where
  pub known : knowns new.stack ≡ known_after text days at node (knowns old.stack)
  pub shapes : shapes_on new.items new.branches new.stack ≡ shapes_after text days at node (shapes_on old.items old.branches old.stack)
  pub listed : ListsOne (item_of_leaf_of (leaf_of_node text days at node)) at old.items old.places new.items new.places
  pub making : IsMaking new

-- and of an operand
pub record IsNextLeaf (at : ℕ) (it : Leaf) (old : Making) (new : Making) : Type 0 where
  pub known : knowns new.stack ≡ leaf_known_of at it ∷ knowns old.stack
  pub shapes : shapes_on new.items new.branches new.stack ≡ Operand it ∷ shapes_on old.items old.branches old.stack
  pub listed : ListsOne (item_of_leaf_of it) at old.items old.places new.items new.places
  pub making : IsMaking new

-- a byte of an item, by which most that differ are told apart
abbrev pub mark_of : Item → ℕ
mark_of (item.Element element combo attribute) = slice_index element 10
mark_of (item.StageElement stage element) = slice_index element 10
mark_of (item.Constant uid) = slice_index uid 10
mark_of _ = 0
