-- There is a reading of texts, and no other; and what the calls answer is its answers, unless memory ran out.
use Rattle.std.proofs.Common.{◌≡◌, ℕ, List, [], Option, Result, Ok, Err, subst}
use Rattle.std.specs.Prelude.{IfOk}
use Rattle.dh_base.specs.Memory.{Answers}
use Rattle.expr_lang.specs.declared.tree.Place.{Place}
use Rattle.expr_lang.specs.declared.tree.Sort.{Sort}
use Rattle.expr_lang.specs.declared.fault.ExprFault.{ExprFault}
use Rattle.expr_lang.specs.declared.fault.ExprFault.TheVariants as fault
use Rattle.expr_lang.specs.Causes.{cause_of}
use Rattle.expr_lang.specs.Expr.{parse_of}
use Rattle.expr_lang.specs.Expression.{Expression}
use Rattle.expr_lang.specs.Print.{text_from, IsPrintOf}
use Rattle.expr_lang.specs.Shape.{Shape}
use Rattle.expr_lang.specs.Stored.{syntax_of}
use Rattle.expr_lang.specs.Syntax.{Syntax}
use Rattle.expr_grammar.specs.Answer.{IsAnswer, UnlessMemory, Reading, IsReadAgain}
use Rattle.expr_grammar.specs.Items.{items_of, Different}
use Rattle.expr_grammar.specs.Laws.{OneTree}
use Rattle.expr_grammar.proofs.Answered.{one_tree, items_are}
use Rattle.expr_grammar.proofs.OneAnswer.{one_answer, answer_so}
use Rattle.expr_grammar.proofs.PrintedAgain.{accepted_again}

pub the_reading : Reading
the_reading = record { answer = parse_of; is = answer_so }

-- what is an answer is what a reading says
pub read_as : (reading : Reading) (place : Place) (days : List (List ℕ)) (wanted : Option Sort) (text : List ℕ) (answer : Result Expression ExprFault)
    → IsAnswer place days wanted text answer → reading.answer place days wanted text ≡ answer
read_as reading place days wanted text answer is =
    one_answer place days wanted text (reading.answer place days wanted text) answer (reading.is place days wanted text) is

-- ---- what a call answers

module _ (place : Place) (days : List (List ℕ)) (wanted : Option Sort) (text : List ℕ) where
  pub answers_so : (answer : Result Expression ExprFault) → Answers cause_of (parse_of place days wanted text) answer
      → UnlessMemory (IsAnswer place days wanted text) answer
  answers_so (Ok expr) is = subst (IsAnswer place days wanted text) is (answer_so place days wanted text)
  answers_so (Err (fault.Syntax at)) is = subst (IsAnswer place days wanted text) is (answer_so place days wanted text)
  answers_so (Err (fault.TooDeep at)) is = subst (IsAnswer place days wanted text) is (answer_so place days wanted text)
  answers_so (Err (fault.Sort at)) is = subst (IsAnswer place days wanted text) is (answer_so place days wanted text)
  answers_so (Err fault.Memory) is = tt

  if_ok : (Is : Expression → Type 0) (answer : Result Expression ExprFault) → Answers cause_of (parse_of place days wanted text) answer
      → IfOk (parse_of place days wanted text) Is → IfOk answer Is
  if_ok Is (Ok expr) is holds = subst (λ (r : Result Expression ExprFault). IfOk r Is) is holds
  if_ok Is (Err f) is holds = tt

  pub one_so : (answer : Result Expression ExprFault) → Answers cause_of (parse_of place days wanted text) answer
      → IfOk answer (λ expr. OneTree place days text expr.tree)
  one_so answer is = if_ok (λ (expr : Expression). OneTree place days text expr.tree) answer is (one_tree place days wanted text)

  pub items_so : (answer : Result Expression ExprFault) → Answers cause_of (parse_of place days wanted text) answer
      → IfOk answer (λ expr. Different (items_of expr.tree) [] expr.items)
  items_so answer is = if_ok (λ (expr : Expression). Different (items_of expr.tree) [] expr.items) answer is (items_are place days wanted text)

-- ---- what is printed

read_so : (tree : Shape) (text : List ℕ) → text ≡ text_from 0 tree → IsReadAgain (syntax_of tree) text
read_so tree text written = record { read = again }
  where
    again : (place : Place) (days : List (List ℕ)) (wanted : Option Sort) (other : List ℕ) (expr : Expression)
        → IsAnswer place days wanted other (Ok expr) → expr.tree ≡ syntax_of tree
        → (again : Expression) × IsAnswer place days wanted text (Ok again) × (again.tree ≡ syntax_of tree)
    again place days wanted other expr is same =
        let r =
        accepted_again tree text written place days wanted other expr
        (one_answer place days wanted other (parse_of place days wanted other) (Ok expr) (answer_so place days wanted other) is) same in
        (r.0, subst (IsAnswer place days wanted text) r.1 (answer_so place days wanted text), r.2)

pub read_again_so : (tree : Syntax) (text : List ℕ) → IsPrintOf tree text → IsReadAgain tree text
read_again_so tree text is = subst (λ (t : Syntax). IsReadAgain t text) is.same (read_so is.shape text is.written)
