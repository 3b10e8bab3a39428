-- The operands of a text, from the nodes that stand for them.
use Rattle.std.specs.Prelude.{ℕ, List, drop, Option, Some, None}
use Rattle.expr_lang.specs.declared.tree.Item.{Item}
use Rattle.expr_lang.specs.declared.tree.Leaf.{Leaf}
use Rattle.expr_lang.specs.declared.tree.Leaf.TheVariants as leaf
use Rattle.expr_lang.specs.declared.reading.Node.{Node}
use Rattle.expr_lang.specs.declared.reading.Node.TheVariants as node
use Rattle.expr_lang.specs.Item.{item_from, leaf_from}

abbrev pub item_leaf : List (List ℕ) → Option Item → Leaf
item_leaf days (Some i) = leaf_from days i
item_leaf days None = leaf.Number 0

-- the operand of a node that stands at a place of the text
abbrev pub leaf_of_node : List ℕ → List (List ℕ) → ℕ → Node → Leaf
leaf_of_node text days at (node.Number n) = leaf.Number n
leaf_of_node text days at (node.Item form) = item_leaf days (item_from form (drop at text))
leaf_of_node text days at _ = leaf.Number 0
