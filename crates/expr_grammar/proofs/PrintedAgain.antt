-- What is printed of a tree that was read is read again as it.
use Rattle.std.proofs.Common.{◌≡◌, ℕ, ◌≤◌, Bool, true, false, cond, List, length, take, Option, Some, None, Result, Ok, Err, refl, sym, ap, subst, ◌∙◌, arith}
use Rattle.std.specs.Prelude.{nat_le, is_none}
use Rattle.std.proofs.lemmas.Bool.Decides.{nat_tests}
use Rattle.expr_lang.specs.declared.tree.Place.{Place}
use Rattle.expr_lang.specs.declared.tree.Sort.{Sort}
use Rattle.expr_lang.specs.declared.reading.Nodes.{Nodes}
use Rattle.expr_lang.specs.declared.fault.ExprFault.{ExprFault}
use Rattle.expr_lang.specs.Expr.{expression_of, expression_from, parse_of}
use Rattle.expr_lang.specs.Expression.{Expression}
use Rattle.expr_lang.proofs.ExprLemmas.{IsOf-expression_of}
use Rattle.expr_lang.specs.Build.{built}
use Rattle.expr_lang.specs.Parse.{accepted, cut_short, nodes_of_text, judged, judged_text}
use Rattle.expr_lang.specs.Print.{text_from}
use Rattle.expr_lang.specs.Reading.{read_text}
use Rattle.expr_lang.specs.Shape.{Shape}
use Rattle.expr_lang.specs.Stored.{syntax_of}
use Rattle.expr_lang.specs.Survey.{survey_of}
use Rattle.expr_grammar.specs.Fewest.{open_of}
use Rattle.expr_grammar.proofs.Bridge.{told, stored_apart}
use Rattle.expr_grammar.specs.Grammar.{Form, IsTextOf}
use Rattle.expr_grammar.proofs.Stored.{tree_of}
use Rattle.expr_grammar.proofs.PrintedFewest.{printed_again}
use Rattle.expr_grammar.proofs.PrintedOpen.{crowded_is}
use Rattle.expr_grammar.proofs.PrintedSurvey.{survey_is, IsKnown, IsGood, good_judged, judged_good}
use Rattle.expr_grammar.proofs.Sound.{text_sound}
use Rattle.expr_grammar.proofs.Texts.{text_read}

-- ---- what is accepted

pub record WasRead (p : Place) (days : List (List ℕ)) (wanted : Option Sort) (text : List ℕ) (nodes : Nodes) : Type 0 where
  pub from : Nodes
  pub short : length text ≤ 4096
  pub read : read_text p text ≡ Ok from
  pub good : judged (survey_of text days from.nodes) wanted from ≡ Ok nodes

was_read_by : (p : Place) (days : List (List ℕ)) (wanted : Option Sort) (text : List ℕ) (nodes : Nodes) (t : Bool) (r cut : Result Nodes ℕ)
    → nat_le (length text) 4096 ≡ t → read_text p text ≡ r → judged_text text days wanted (cond t r (cut_short cut)) ≡ Ok nodes
    → WasRead p days wanted text nodes
was_read_by p days wanted text nodes true (Ok from) cut e f g = record { from = from; short = grind (arith, nat_tests); read = f; good = g }
was_read_by p days wanted text nodes true (Err at) cut e f g = absurd cc
was_read_by p days wanted text nodes false r (Ok x) e f g = absurd cc
was_read_by p days wanted text nodes false r (Err at) e f g = absurd cc

pub was_read : (p : Place) (days : List (List ℕ)) (wanted : Option Sort) (text : List ℕ) (nodes : Nodes) → accepted p days wanted text ≡ Ok nodes
    → WasRead p days wanted text nodes
unfolding accepted nodes_of_text
was_read p days wanted text nodes e =
    was_read_by p days wanted text nodes (nat_le (length text) 4096) (read_text p text) (read_text p (take 4096 text)) refl refl e

pub is_accepted : (p : Place) (days : List (List ℕ)) (wanted : Option Sort) (text : List ℕ) (nodes : Nodes) → length text ≤ 4096 → read_text p text ≡ Ok nodes
    → judged (survey_of text days nodes.nodes) wanted nodes ≡ Ok nodes → accepted p days wanted text ≡ Ok nodes
unfolding accepted nodes_of_text
is_accepted p days wanted text nodes short read good =
    let e : nat_le (length text) 4096 ≡ true = grind (arith, nat_tests) in
    ap (λ (t : Bool). judged_text text days wanted (cond t (read_text p text) (cut_short (read_text p (take 4096 text))))) e
    ∙ ap (judged_text text days wanted) read ∙ good

same_nodes : (a b : Nodes) (r : Result Nodes ℕ) → r ≡ Ok a → r ≡ Ok b → a ≡ b
same_nodes a b r e f = cc

-- ---- a text of the grammar

-- a text of at most 4,096 bytes with at most 64 brackets open at once, of a tree that isn't too deep and whose sorts fit
pub text_accepted : (p : Place) (days : List (List ℕ)) (wanted : Option Sort) (text : List ℕ) (F : Form) → IsTextOf p text F → length text ≤ 4096
    → open_of F ≤ 64 → IsGood (tree_of days F) wanted
    → (nodes : Nodes) × (accepted p days wanted text ≡ Ok nodes) × (built text days nodes.nodes ≡ tree_of days F)
text_accepted p days wanted text F is short few good =
    let r = text_read p days text short F is in
    let e : nat_le (open_of F) 64 ≡ true = grind (arith, nat_tests) in
    let free = no_place r.nodes.crowded (crowded_is p text F r.nodes is r.read ∙ e) in
    let known = survey_is text days r.nodes.nodes (tree_of days F) r.evals.is in (
      r.nodes,
      is_accepted p days wanted text r.nodes short r.read
          (judged_good (survey_of text days r.nodes.nodes) (tree_of days F) wanted r.nodes known good free),
      r.tree,
    )
  where
    no_place : (o : Option ℕ) → is_none o ≡ true → o ≡ None
    no_place None e = refl
    no_place (Some x) e = absurd cc

-- and no other
pub accepted_only : (p : Place) (days : List (List ℕ)) (wanted : Option Sort) (text : List ℕ) (F : Form) (nodes : Nodes) → IsTextOf p text F
    → accepted p days wanted text ≡ Ok nodes
    → (length text ≤ 4096) × (open_of F ≤ 64) × IsGood (tree_of days F) wanted × (built text days nodes.nodes ≡ tree_of days F)
accepted_only p days wanted text F nodes is e =
    let w = was_read p days wanted text nodes e in
    let r = text_read p days text w.short F is in
    let same : r.nodes ≡ w.from = same_nodes r.nodes w.from (read_text p text) r.read w.read in
    let known = survey_is text days r.nodes.nodes (tree_of days F) r.evals.is in
    let good =
    good_judged (survey_of text days w.from.nodes) (tree_of days F) wanted w.from nodes
    (subst (λ (n : Nodes). IsKnown (survey_of text days n.nodes) (tree_of days F)) same known) w.good in
    let count = crowded_is p text F w.from is w.read in
    let few : nat_le (open_of F) 64 ≡ true = sym count ∙ ap (λ o. is_none o) good.1 in
    (w.short, grind (arith, nat_tests), good.0, ap (λ (n : Nodes). built text days n.nodes) (good.2 ∙ sym same) ∙ r.tree)

pub read_again : (tree : Shape) (printed : List ℕ) → printed ≡ text_from 0 tree
    → (p : Place) (days : List (List ℕ)) (wanted : Option Sort) (text : List ℕ) (F : Form) (nodes : Nodes) → IsTextOf p text F → tree_of days F ≡ tree
    → accepted p days wanted text ≡ Ok nodes
    → (again : Nodes) × (accepted p days wanted printed ≡ Ok again) × (built printed days again.nodes ≡ tree)
read_again tree printed is p days wanted text F nodes whole same e =
    let a = accepted_only p days wanted text F nodes whole e in
    let r = printed_again tree printed is p days F whole.0 same in
    let less = r.shortest F text whole same in
    let flat = r.flattest F whole.0 same in
    let good = subst (λ (s : Shape). IsGood s wanted) (same ∙ sym r.same) a.2 in
    let t = text_accepted p days wanted printed r.form r.again (omega arith) (omega arith) good in
    (t.0, t.1, t.2 ∙ r.same)

-- and so each text that means an expression
module _ (text : List ℕ) (days : List (List ℕ)) where
  nodes_of : (r : Result Nodes ExprFault) (expr : Expression) → expression_from text days r ≡ Ok expr
      → (nodes : Nodes) × (r ≡ Ok nodes) × (expr.tree ≡ syntax_of (built text days nodes.nodes))
  nodes_of (Ok nodes) expr e =
      (nodes, refl, ap (λ (x : Expression). x.tree) (ok_is expr (expression_of text days nodes) (sym e)) ∙ (IsOf-expression_of text days nodes).tree)
    where
      ok_is : (x y : Expression) → ◌≡◌ {A = Result Expression ExprFault} (Ok x) (Ok y) → x ≡ y
      ok_is x y e = cc
  nodes_of (Err f) expr e = absurd cc

  meant_from : (r : Result Nodes ExprFault) (nodes : Nodes) → r ≡ Ok nodes → expression_from text days r ≡ Ok (expression_of text days nodes)
  meant_from r nodes e = ap (expression_from text days) e

pub accepted_again : (tree : Shape) (printed : List ℕ) → printed ≡ text_from 0 tree
    → (p : Place) (days : List (List ℕ)) (wanted : Option Sort) (text : List ℕ) (expr : Expression) → parse_of p days wanted text ≡ Ok expr
    → expr.tree ≡ syntax_of tree
    → (again : Expression) × (parse_of p days wanted printed ≡ Ok again) × (again.tree ≡ syntax_of tree)
unfolding parse_of
accepted_again tree printed is p days wanted text expr e same =
    let n = nodes_of text days (accepted p days wanted text) expr e in
    let w = was_read p days wanted text n.0 n.1 in
    let F = text_sound p text w.from w.read in
    let a = accepted_only p days wanted text F.0 n.0 F.1 n.1 in
    let t = told days p F.0 F.1.0 in
    let stored : tree_of days F.0 ≡ tree = stored_apart days p F.0 tree F.1.0 (sym t.stored ∙ ap syntax_of (sym a.3) ∙ sym n.2 ∙ same) in
    let r = read_again tree printed is p days wanted text F.0 n.0 F.1 stored n.1 in (
      expression_of printed days r.0,
      meant_from printed days (accepted p days wanted printed) r.0 r.1,
      (IsOf-expression_of printed days r.0).tree ∙ ap syntax_of r.2,
    )
