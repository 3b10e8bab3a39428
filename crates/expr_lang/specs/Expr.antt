-- The expression that a text is.
use Rattle.std.specs.Prelude.{◌≡◌, ℕ, List, Option, Result, Ok, Err}
use Rattle.expr_lang.specs.declared.tree.Item.{Item}
use Rattle.expr_lang.specs.declared.tree.Place.{Place}
use Rattle.expr_lang.specs.declared.tree.Sort.{Sort}
use Rattle.expr_lang.specs.declared.reading.Nodes.{Nodes}
use Rattle.expr_lang.specs.declared.expr.Expr.{Expr}
use Rattle.expr_lang.specs.declared.fault.ExprFault.{ExprFault}
use Rattle.expr_lang.specs.Build.{built}
use Rattle.expr_lang.specs.Expression.{Expression}
use Rattle.expr_lang.specs.Items.{occurrences, Lists, listed}
use Rattle.expr_lang.specs.Parse.{accepted}
use Rattle.expr_lang.specs.Stored.{syntax_of}

-- the different items in order of their first occurrence
abbrev pub items_in : Expr → List Item
items_in expr = expr.items

-- the first byte of the first occurrence of each
abbrev pub places_in : Expr → List ℕ
places_in expr = expr.places

-- an expression has the tree and the items of a text with these nodes
pub record IsOf (text : List ℕ) (days : List (List ℕ)) (expr : Expr) (nodes : Nodes) : Type 0 where
  pub tree : expr.tree ≡ syntax_of (built text days nodes.nodes)
  pub items : Lists (occurrences text days nodes.nodes) (items_in expr) (places_in expr)

-- the expression of a text with these nodes
abbrev pub with_items : List ℕ → List (List ℕ) → Nodes → List Item × List ℕ → Expression
with_items text days nodes items = record { tree = syntax_of (built text days nodes.nodes); items = items.0; places = items.1 }

unfoldable pub expression_of : List ℕ → List (List ℕ) → Nodes → Expression
expression_of text days nodes = with_items text days nodes (listed (occurrences text days nodes.nodes))

abbrev pub expression_from : List ℕ → List (List ℕ) → Result Nodes ExprFault → Result Expression ExprFault
expression_from text days (Ok nodes) = Ok (expression_of text days nodes)
expression_from text days (Err f) = Err f

-- the expression that a text is in its place, of a sort or of any, or the first fault
unfoldable pub parse_of : Place → List (List ℕ) → Option Sort → List ℕ → Result Expression ExprFault
parse_of place days wanted text = expression_from text days (accepted place days wanted text)

-- these nodes are judged to be accepted, or to have a fault
abbrev pub IsJudged : Nodes → Result Nodes ExprFault → Result Unit ExprFault → Type 0
IsJudged nodes answer (Ok _) = answer ≡ Ok nodes
IsJudged nodes answer (Err f) = answer ≡ Err f
