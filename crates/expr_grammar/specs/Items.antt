-- The items of a tree, and those of a form with their places.
use Rattle.std.specs.Prelude.{◌≡◌, ℕ, ◌-◌, List, [], ◌∷◌, ◌++◌, length, Contains, ◌⊎◌}
use Rattle.expr_lang.specs.declared.tree.Item.{Item}
use Rattle.expr_lang.specs.declared.tree.Leaf.{Leaf}
use Rattle.expr_lang.specs.declared.tree.Leaf.TheVariants as leaf
use Rattle.expr_lang.specs.declared.tree.Place.{Place}
use Rattle.expr_lang.specs.declared.words.Symbol.TheVariants as symbol
use Rattle.expr_lang.specs.Expression.{Expression}
use Rattle.expr_lang.specs.Item.{item_from}
use Rattle.expr_lang.specs.Items.{Occurrence, item_of_leaf_of, with_occurrence, Lists}
use Rattle.expr_lang.specs.Leaves.{item_leaf}
use Rattle.expr_grammar.specs.Grammar.{Form, Number, Item as Named, Bracket, Power, Sign, Chain, Arguments, If, Condition, DaysBetween, Apply, IsTextOf}
use Rattle.expr_grammar.specs.Grammar.{spelled, symbol_text, after_blanks}
use Rattle.expr_lang.specs.Syntax as syntax
use Rattle.expr_lang.specs.Syntax.{Syntax}

abbrev pub items_of_leaf : Leaf → List Item
items_of_leaf (leaf.Number n) = []
items_of_leaf (leaf.Item i) = i ∷ []
items_of_leaf (leaf.Day i) = i ∷ []

-- each occurrence of an item, from left to right
abbrev mutual
  pub items_of : Syntax → List Item
  items_of (syntax.Operand it) = items_of_leaf it
  items_of (syntax.Signed sign x) = items_of x
  items_of (syntax.Power x n) = items_of x
  items_of (syntax.Between operator x y) = items_of x ++ items_of y
  items_of (syntax.Call function xs) = items_of_all xs

  pub items_of_all : syntax.Arguments → List Item
  items_of_all syntax.End = []
  items_of_all (syntax.Argument x xs) = items_of x ++ items_of_all xs

-- these and those that are different from them, in order of their first occurrence
abbrev pub Different : List Item → List Item → List Item → Type 0
Different [] so_far all = all ≡ so_far
Different (i ∷ others) so_far all = (Contains so_far i × Different others so_far all) ⊎ ((¬ Contains so_far i) × Different others (so_far ++ i ∷ []) all)

-- Each occurrence of an item in a form with a rest after it, in a text of so many bytes, from left to right. The place of an
-- item is the text's length less what is left from it on.
abbrev pub occurrences_of : List (List ℕ) → ℕ → Form → List ℕ → List Occurrence
occurrences_of days total (Number b digits decimals) rest = []
occurrences_of days total (Named b form word) rest = with_occurrence (item_of_leaf_of (item_leaf days (item_from form word))) (total - length (word ++ rest)) []
occurrences_of days total (Bracket b inner c) rest = occurrences_of days total inner (symbol_text c symbol.Close rest)
occurrences_of days total (Power atom b c digits) rest = occurrences_of days total atom (symbol_text b symbol.Caret (after_blanks c digits rest))
occurrences_of days total (Sign b sign operand) rest = occurrences_of days total operand rest
occurrences_of days total (Chain left b operator right) rest =
    occurrences_of days total left (symbol_text b (symbol.Operator operator) (spelled right rest)) ++ occurrences_of days total right rest
occurrences_of days total (Arguments first b last) rest =
    occurrences_of days total first (symbol_text b symbol.Comma (spelled last rest)) ++ occurrences_of days total last rest
occurrences_of days total (If b c test d one e other f) rest =
    (occurrences_of days total test (symbol_text d symbol.Comma (spelled one (symbol_text e symbol.Comma (spelled other (symbol_text f symbol.Close rest)))))
    ++ occurrences_of days total one (symbol_text e symbol.Comma (spelled other (symbol_text f symbol.Close rest))))
    ++ occurrences_of days total other (symbol_text f symbol.Close rest)
occurrences_of days total (Condition b c d test e f one g other h) rest =
    (occurrences_of days total test (symbol_text e symbol.Quote
    (symbol_text f symbol.Comma (spelled one (symbol_text g symbol.Comma (spelled other (symbol_text h symbol.Close rest))))))
    ++ occurrences_of days total one (symbol_text g symbol.Comma (spelled other (symbol_text h symbol.Close rest))))
    ++ occurrences_of days total other (symbol_text h symbol.Close rest)
occurrences_of days total (DaysBetween b c one d other e) rest =
    occurrences_of days total one (symbol_text d symbol.Comma (spelled other (symbol_text e symbol.Close rest)))
    ++ occurrences_of days total other (symbol_text e symbol.Close rest)
occurrences_of days total (Apply b name c arguments d) rest = occurrences_of days total arguments (symbol_text d symbol.Close rest)

-- the different items of an expression, and the place of the first occurrence of each, are those of each form that the text is
abbrev pub ListsItems : Place → List (List ℕ) → List ℕ → Expression → Type 0
ListsItems place days text expr =
    (form : Form) (is : IsTextOf place text form) → Lists (occurrences_of days (length text) form is.1) expr.items expr.places
