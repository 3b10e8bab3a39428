-- The text that is printed of a tree: no text of the grammar with this tree is shorter, has fewer brackets or has more of them
-- open at once.
use Rattle.std.specs.Prelude.{◌≡◌, ℕ, suc, ◌+◌, ◌≤◌, max, List, length}
use Rattle.expr_lang.specs.declared.tree.Place.{Place}
use Rattle.expr_lang.specs.Syntax.{Syntax}
use Rattle.expr_grammar.specs.Grammar.{Form, Number, Item, Bracket, Power, Sign, Chain, Arguments, If, Condition, DaysBetween, Apply, IsWhole, IsTextOf}
use Rattle.expr_grammar.specs.Grammar.{tree_of}

-- what brackets come to where those of a call count so much, and those of several operands are joined so
abbrev pub brackets_by : (ℕ → ℕ → ℕ) → ℕ → Form → ℕ
brackets_by join of_call (Number b digits decimals) = 0
brackets_by join of_call (Item b form word) = 0
brackets_by join of_call (Bracket b inner c) = suc (brackets_by join of_call inner)
brackets_by join of_call (Power atom b c digits) = brackets_by join of_call atom
brackets_by join of_call (Sign b sign operand) = brackets_by join of_call operand
brackets_by join of_call (Chain left b operator right) = join (brackets_by join of_call left) (brackets_by join of_call right)
brackets_by join of_call (Arguments first b last) = join (brackets_by join of_call first) (brackets_by join of_call last)
brackets_by join of_call (If b c test d one e other f) =
    of_call + join (brackets_by join of_call test) (join (brackets_by join of_call one) (brackets_by join of_call other))
brackets_by join of_call (Condition b c d test e f one g other h) =
    of_call + join (brackets_by join of_call test) (join (brackets_by join of_call one) (brackets_by join of_call other))
brackets_by join of_call (DaysBetween b c one d other e) = of_call + join (brackets_by join of_call one) (brackets_by join of_call other)
brackets_by join of_call (Apply b name c arguments d) = of_call + brackets_by join of_call arguments

-- how many pairs of brackets a form has, beside those of calls
abbrev pub brackets_of : Form → ℕ
brackets_of form = brackets_by (λ m n. m + n) 0 form

-- how many brackets are open at once, those of calls too
abbrev pub open_of : Form → ℕ
open_of form = brackets_by (λ m n. max m n) 1 form

-- a text is a shortest one with this tree, with the fewest brackets
pub record IsPrinted (place : Place) (days : List (List ℕ)) (tree : Syntax) (text : List ℕ) : Type 0 where
  pub form : Form
  pub again : IsTextOf place text form
  pub same : tree_of days form ≡ tree
  pub fewest : (other : Form) → IsWhole place other → tree_of days other ≡ tree → brackets_of form ≤ brackets_of other
  pub flattest : (other : Form) → IsWhole place other → tree_of days other ≡ tree → open_of form ≤ open_of other
  pub shortest : (other : Form) (others : List ℕ) → IsTextOf place others other → tree_of days other ≡ tree → length text ≤ length others

-- It is so in each place, and for each reading of which items are days, where the grammar has a text with this tree.
abbrev pub IsPrintedAgain : Syntax → List ℕ → Type 0
IsPrintedAgain tree text =
    (place : Place) (days : List (List ℕ)) (form : Form) → IsWhole place form → tree_of days form ≡ tree → IsPrinted place days tree text
