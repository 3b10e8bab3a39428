-- At most one tree for a text.
use Rattle.std.specs.Prelude.{◌≡◌, ℕ, List}
use Rattle.expr_lang.specs.declared.tree.Place.{Place}
use Rattle.expr_lang.specs.Syntax.{Syntax}
use Rattle.expr_grammar.specs.Grammar.{Form, IsTextOf, tree_of}

-- each form that the text is has this tree
abbrev pub OneTree : Place → List (List ℕ) → List ℕ → Syntax → Type 0
OneTree place days text tree = (form : Form) → IsTextOf place text form → tree ≡ tree_of days form
