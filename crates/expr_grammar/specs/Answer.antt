-- What is an answer for a text, by the grammar alone, and that there is one only.
use Rattle.std.specs.Prelude.{◌≡◌, ℕ, List, Option, Result, Ok, Err, IfOk, IfErr}
use Rattle.expr_lang.specs.declared.tree.Place.{Place}
use Rattle.expr_lang.specs.declared.tree.Sort.{Sort}
use Rattle.expr_lang.specs.declared.fault.ExprFault.{ExprFault}
use Rattle.expr_lang.specs.declared.fault.ExprFault.TheVariants as fault
use Rattle.expr_lang.specs.Expression.{Expression}
use Rattle.expr_lang.specs.Faults.{IfSyntax}
use Rattle.expr_lang.specs.Syntax.{Syntax}
use Rattle.expr_grammar.specs.Continues.{GoesOnAt, EndsAt}
use Rattle.expr_grammar.specs.Items.{ListsItems}
use Rattle.expr_grammar.specs.Limits.{AnswersBy}

-- what is said of an answer for a text in a place, where an expression of a sort is wanted, or one of any
pub record IsAnswer (place : Place) (days : List (List ℕ)) (wanted : Option Sort) (text : List ℕ) (answer : Result Expression ExprFault) : Type 0 where
  -- An expression has the tree of a form of the text. A fault says why no form is accepted, and where.
  pub read : AnswersBy place days wanted text answer
  -- An expression has the different items of the text in order of their first occurrence, each with the place of that.
  pub items : IfOk answer (λ expr. ListsItems place days text expr)
  -- The bytes before a fault of syntax begin a text of the grammar, or so inside a quoted text; with the byte there they don't.
  pub before : IfErr answer (λ fault. IfSyntax fault (GoesOnAt place text))
  pub ends : IfErr answer (λ fault. IfSyntax fault (EndsAt place text))

-- A text has one answer: any two are one fault at one place, or one expression.
abbrev pub HasOneAnswer : Place → List (List ℕ) → Option Sort → List ℕ → Type 0
HasOneAnswer place days wanted text =
    (one other : Result Expression ExprFault) → IsAnswer place days wanted text one → IsAnswer place days wanted text other → one ≡ other

-- what a call answers is so, unless memory ran out
abbrev pub UnlessMemory : (Result Expression ExprFault → Type 0) → Result Expression ExprFault → Type 0
UnlessMemory Is (Ok expr) = Is (Ok expr)
UnlessMemory Is (Err (fault.Syntax at)) = Is (Err (fault.Syntax at))
UnlessMemory Is (Err (fault.TooDeep at)) = Is (Err (fault.TooDeep at))
UnlessMemory Is (Err (fault.Sort at)) = Is (Err (fault.Sort at))
UnlessMemory Is (Err fault.Memory) = Unit {0}

-- A reading of texts: an answer by the grammar for each. There is one (`proofs/Readings.antt`), and since a text has one answer, no
-- other.
pub record Reading : Type 0 where
  pub answer : Place → List (List ℕ) → Option Sort → List ℕ → Result Expression ExprFault
  pub is : (place : Place) (days : List (List ℕ)) (wanted : Option Sort) (text : List ℕ)
      → IsAnswer place days wanted text (answer place days wanted text)

-- Where any text is an expression with this tree, this text is one too.
pub record IsReadAgain (tree : Syntax) (text : List ℕ) : Type 0 where
  pub read : (place : Place) (days : List (List ℕ)) (wanted : Option Sort) (other : List ℕ) (expr : Expression)
      → IsAnswer place days wanted other (Ok expr) → expr.tree ≡ tree
      → (again : Expression) × IsAnswer place days wanted text (Ok again) × (again.tree ≡ tree)
