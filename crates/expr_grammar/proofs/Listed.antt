-- The items of an expression are those of its tree.
use Rattle.std.proofs.Common.{◌≡◌, ℕ, List, [], ◌∷◌, ◌++◌, refl, sym, ap, ◌∙◌, inl, inr, append_assoc}
use Rattle.expr_lang.specs.declared.tree.Item.{Item}
use Rattle.expr_lang.specs.declared.tree.Leaf.{Leaf}
use Rattle.expr_lang.specs.declared.tree.Leaf.TheVariants as leaf
use Rattle.expr_lang.specs.declared.reading.Spot.{Spot}
use Rattle.expr_lang.specs.declared.reading.Node.{Node}
use Rattle.expr_lang.specs.declared.reading.Node.TheVariants as node
use Rattle.expr_lang.specs.Build.{shapes_after, shapes_behind, top_shape, under_shape}
use Rattle.expr_lang.specs.Items.{Occurrence, item_of_leaf_of, with_occurrence, occurrences, ListsFrom}
use Rattle.expr_lang.specs.Leaves.{leaf_of_node}
use Rattle.expr_lang.specs.Shape.{Shape, Operand}
use Rattle.expr_grammar.specs.Items.{items_of_leaf, Different}
use Rattle.expr_grammar.proofs.Stored.{items_of}

-- the items on a stack, from its bottom up
abbrev on_stack : List Shape → List Item
on_stack [] = []
on_stack (s ∷ ss) = on_stack ss ++ items_of s

abbrev pub items_at : List Occurrence → List Item
items_at [] = []
items_at (o ∷ os) = o.item ∷ items_at os

top_and_under : (stack : List Shape) → on_stack stack ≡ on_stack (under_shape stack) ++ items_of (top_shape stack)
top_and_under [] = refl
top_and_under (s ∷ ss) = refl

after_leaf : (text : List ℕ) (days : List (List ℕ)) (at : ℕ) (it : Node) (stack : List Shape)
    → on_stack (Operand (leaf_of_node text days at it) ∷ stack) ≡ on_stack stack ++ items_of_leaf (leaf_of_node text days at it)
after_leaf text days at it stack = refl

nothing_behind : (xs : List Item) → xs ++ [] ≡ xs
nothing_behind [] = refl
nothing_behind (x ∷ xs) = ap (λ (l : List Item). x ∷ l) (nothing_behind xs)

-- one node more
after_node : (text : List ℕ) (days : List (List ℕ)) (at : ℕ) (it : Node) (stack : List Shape)
    → on_stack (shapes_after text days at it stack) ≡ on_stack stack ++ items_of_leaf (leaf_of_node text days at it)
after_node text days at (node.Number n) stack = refl
after_node text days at (node.Item f) stack = refl
after_node text days at (node.Unary o) stack = sym (top_and_under stack) ∙ sym (nothing_behind (on_stack stack))
after_node text days at (node.Binary o) stack =
    let one = top_and_under stack in
    let two = top_and_under (under_shape stack) in
    sym (append_assoc (on_stack (under_shape (under_shape stack))) (items_of (top_shape (under_shape stack))) (items_of (top_shape stack)))
    ∙ ap (λ (l : List Item). l ++ items_of (top_shape stack)) (sym two) ∙ sym one ∙ sym (nothing_behind (on_stack stack))
after_node text days at node.If stack =
    let one = top_and_under stack in
    let two = top_and_under (under_shape stack) in
    let three = top_and_under (under_shape (under_shape stack)) in
    let a = on_stack (under_shape (under_shape (under_shape stack))) in
    let x = items_of (top_shape (under_shape (under_shape stack))) in
    let y = items_of (top_shape (under_shape stack)) in
    let z = items_of (top_shape stack) in
    sym (append_assoc a (x ++ y) z)
    ∙ ap (λ (l : List Item). l ++ z) (sym (append_assoc a x y) ∙ ap (λ (l : List Item). l ++ y) (sym three) ∙ sym two)
    ∙ sym one ∙ sym (nothing_behind (on_stack stack))

occurs : (l : Leaf) (at : ℕ) (os : List Occurrence) → items_at (with_occurrence (item_of_leaf_of l) at os) ≡ items_of_leaf l ++ items_at os
occurs (leaf.Number n) at os = refl
occurs (leaf.Item i) at os = refl
occurs (leaf.Day i) at os = refl

behind_nodes : (text : List ℕ) (days : List (List ℕ)) (nodes : List Spot) (stack : List Shape)
    → on_stack (shapes_behind text days nodes stack) ≡ on_stack stack ++ items_at (occurrences text days nodes)
behind_nodes text days [] stack = sym (nothing_behind (on_stack stack))
behind_nodes text days (s ∷ nodes) stack =
    behind_nodes text days nodes (shapes_after text days s.at s.node stack)
    ∙ ap (λ (l : List Item). l ++ items_at (occurrences text days nodes)) (after_node text days s.at s.node stack)
    ∙ append_assoc (on_stack stack) (items_of_leaf (leaf_of_node text days s.at s.node)) (items_at (occurrences text days nodes))
    ∙ ap (λ (l : List Item). on_stack stack ++ l) (sym (occurs (leaf_of_node text days s.at s.node) s.at (occurrences text days nodes)))

-- nodes of one tree alone
pub items_so : (text : List ℕ) (days : List (List ℕ)) (nodes : List Spot) (tree : Shape) → shapes_behind text days nodes [] ≡ tree ∷ []
    → items_at (occurrences text days nodes) ≡ items_of tree
items_so text days nodes tree e = sym (behind_nodes text days nodes []) ∙ ap on_stack e

pub different_so : (os : List Occurrence) (items : List Item) (places : List ℕ) (all : List Item) (all_places : List ℕ)
    → ListsFrom os items places all all_places → Different (items_at os) items all
different_so [] items places all all_places h = h.0
different_so (o ∷ os) items places all all_places (inl h) = inl (h.0, different_so os items places all all_places h.1)
different_so (o ∷ os) items places all all_places (inr h) = inr (h.0, different_so os (items ++ o.item ∷ []) _ all all_places h.1)
