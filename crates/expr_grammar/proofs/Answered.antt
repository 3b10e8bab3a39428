-- What an answer says by the grammar.
use Rattle.std.proofs.Common.{◌≡◌, [], ◌∷◌, subst, ℕ, ◌≤◌, Bool, true, false, cond, List, length, take, Option, Some, None, Result, Ok, Err, refl}
use Rattle.std.proofs.Common.{sym, ap, ◌∙◌, arith}
use Rattle.std.specs.Prelude.{nat_le, nat_lt, IfOk, IfErr}
use Rattle.std.proofs.lemmas.Bool.Decides.{nat_tests}
use Rattle.expr_lang.specs.declared.tree.Place.{Place}
use Rattle.expr_lang.specs.declared.tree.Item.{Item}
use Rattle.expr_lang.specs.declared.tree.Sort.{Sort}
use Rattle.expr_lang.specs.declared.expr.Expr.{Expr}
use Rattle.expr_lang.specs.declared.reading.Nodes.{Nodes}
use Rattle.expr_lang.specs.declared.fault.ExprFault.{ExprFault}
use Rattle.expr_lang.specs.declared.fault.ExprFault.TheVariants as fault
use Rattle.expr_lang.specs.Build.{built}
use Rattle.expr_lang.specs.Expr.{IsOf, expression_from, parse_of}
use Rattle.expr_lang.specs.Parse.{cut_short, nodes_of_text, brackets_judged, judged_text, accepted, Accepts}
use Rattle.expr_lang.specs.Reading.{read_text}
use Rattle.expr_lang.specs.Stored.{syntax_of}
use Rattle.expr_lang.specs.Survey.{survey_of, misfit_of}
use Rattle.expr_lang.specs.Build.{shapes_behind}
use Rattle.expr_lang.specs.Expr.{items_in, places_in}
use Rattle.expr_lang.specs.Items.{Occurrence, occurrences, Lists}
use Rattle.expr_grammar.specs.Grammar.{Form, IsTextOf}
use Rattle.expr_grammar.specs.Items.{items_of, Different, ListsItems}
use Rattle.expr_grammar.specs.Laws.{OneTree}
use Rattle.expr_grammar.proofs.Bridge.{told}
use Rattle.expr_grammar.proofs.Stored.{tree_of}
use Rattle.expr_grammar.proofs.Listed.{items_at, items_so, different_so}
use Rattle.expr_grammar.proofs.Stored.{AnswersBy}
use Rattle.expr_grammar.proofs.Limits.{meant_by}
use Rattle.expr_grammar.proofs.Faulted.{goes_on}
use Rattle.expr_grammar.specs.Continues.{GoesOnAt, EndsAt}
use Rattle.expr_grammar.proofs.Ended.{ends_so}
use Rattle.expr_lang.proofs.ExprLemmas.{IsOf-expression_of}
use Rattle.expr_lang.specs.Faults.{IfSyntax}
use Rattle.expr_grammar.proofs.Sound.{text_sound}
use Rattle.expr_grammar.proofs.Texts.{text_read, text_told}

cut_fails : (r : Result Nodes ℕ) (nodes : Nodes) → cut_short r ≡ Ok nodes → ⊥
cut_fails (Ok m) nodes e = cc
cut_fails (Err k) nodes e = cc

-- nodes are read of texts of at most 4,096 bytes alone
nodes_read : (p : Place) (text : List ℕ) (nodes : Nodes) → nodes_of_text p text ≡ Ok nodes → (length text ≤ 4096) × (read_text p text ≡ Ok nodes)
unfolding nodes_of_text
nodes_read p text nodes e =
    (elim (nat_le (length text) 4096) as (λ t. nat_le (length text) 4096 ≡ t → cond t (read_text p text) (cut_short (read_text p (take 4096 text))) ≡ Ok nodes
    → (length text ≤ 4096) × (read_text p text ≡ Ok nodes)) [
      | true ↦ λ f g. (grind (arith, nat_tests), g)
      | false ↦ λ f g. absurd (cut_fails (read_text p (take 4096 text)) nodes g)
    ]) refl e

-- what is judged
judged_ok : (b : Bool) (crowded misfit : Option ℕ) (nodes m : Nodes) → cond b (Err (fault.TooDeep 0)) (brackets_judged crowded misfit nodes) ≡ Ok m → nodes ≡ m
judged_ok true crowded misfit nodes m e = absurd cc
judged_ok false (Some k) misfit nodes m e = absurd cc
judged_ok false None (Some k) nodes m e = absurd cc
judged_ok false None None nodes m e = cc

text_ok : (text : List ℕ) (days : List (List ℕ)) (wanted : Option Sort) (r : Result Nodes ℕ) (m : Nodes) → judged_text text days wanted r ≡ Ok m → r ≡ Ok m
text_ok text days wanted (Err k) m e = absurd cc
text_ok text days wanted (Ok nodes) m e =
    ap (λ (x : Nodes). Ok x) (judged_ok (nat_lt 512 (survey_of text days nodes.nodes).depth) nodes.crowded (misfit_of (survey_of text days nodes.nodes) wanted)
    nodes m e)

ok_is : (x y : Nodes) → ◌≡◌ {A = Result Nodes ℕ} (Ok x) (Ok y) → x ≡ y
ok_is x y e = cc

module _ (p : Place) (days : List (List ℕ)) (wanted : Option Sort) (text : List ℕ) where
  -- the tree of each form that the text is
  one_so : (nodes : Nodes) (form : Form) → accepted p days wanted text ≡ Ok nodes → IsTextOf p text form → built text days nodes.nodes ≡ tree_of days form
  unfolding accepted
  one_so nodes form e is =
      let n = nodes_read p text nodes (text_ok text days wanted (nodes_of_text p text) nodes e) in
      let r = text_read p days text n.0 form is in
      let same : nodes ≡ r.nodes = ok_is nodes r.nodes (sym n.1 ∙ r.read) in
      ap (λ (x : Nodes). built text days x.nodes) same ∙ r.tree

  one_of : (r : Result Expr ExprFault) (a : Result Nodes ExprFault) → accepted p days wanted text ≡ a → Accepts (IsOf text days) r a
      → IfOk r (λ expr. OneTree p days text expr.tree)
  one_of (Ok expr) (Ok nodes) e h = λ form is. h.tree ∙ ap syntax_of (one_so nodes form e is) ∙ (told days p form is.0).stored
  one_of (Ok expr) (Err f) e h = absurd h
  one_of (Err f) a e h = tt

  -- what is meant is what is accepted
  meant : Accepts (λ expr nodes. IsOf text days expr nodes) (parse_of p days wanted text) (accepted p days wanted text)
  unfolding parse_of
  meant = by_answer (accepted p days wanted text)
    where
      by_answer : (a : Result Nodes ExprFault) → Accepts (λ expr nodes. IsOf text days expr nodes) (expression_from text days a) a
      by_answer (Ok nodes) = IsOf-expression_of text days nodes
      by_answer (Err fault.Memory) = tt
      by_answer (Err (fault.Syntax at)) = refl
      by_answer (Err (fault.TooDeep at)) = refl
      by_answer (Err (fault.Sort at)) = refl

  pub found : AnswersBy p days wanted text (parse_of p days wanted text)
  found = meant_by p days wanted text (text_sound p text)

  pub one_tree : IfOk (parse_of p days wanted text) (λ expr. OneTree p days text expr.tree)
  one_tree = one_of (parse_of p days wanted text) (accepted p days wanted text) refl meant

  -- the items are the tree's
  items_of_one : (expr : Expr) (nodes : Nodes) → accepted p days wanted text ≡ Ok nodes → IsOf text days expr nodes
      → Different (items_of expr.tree) [] (items_in expr)
  unfolding accepted Lists
  items_of_one expr nodes e is =
      let n = nodes_read p text nodes (text_ok text days wanted (nodes_of_text p text) nodes e) in
      let F = text_sound p text nodes n.1 in
      let r = text_read p days text n.0 F.0 F.1 in
      let same : r.nodes ≡ nodes = ok_is r.nodes nodes (sym r.read ∙ n.1) in
      let stack : shapes_behind text days nodes.nodes [] ≡ tree_of days F.0 ∷ [] = ap (λ (x : Nodes). shapes_behind text days x.nodes []) (sym same)
      ∙ r.evals.is [] in
      let t = told days p F.0 F.1.0 in
      let items : items_at (occurrences text days nodes.nodes) ≡ items_of expr.tree = items_so text days nodes.nodes (tree_of days F.0) stack
      ∙ sym t.same.items
      ∙ ap items_of (sym t.stored ∙ ap syntax_of (sym (one_so nodes F.0 e F.1)) ∙ sym is.tree) in
      subst (λ (l : List Item). Different l [] (items_in expr)) items
      (different_so (occurrences text days nodes.nodes) [] [] (items_in expr) (places_in expr) is.items)

  items_from : (r : Result Expr ExprFault) (a : Result Nodes ExprFault) → accepted p days wanted text ≡ a → Accepts (IsOf text days) r a
      → IfOk r (λ expr. Different (items_of expr.tree) [] (items_in expr))
  items_from (Ok expr) (Ok nodes) e h = items_of_one expr nodes e h
  items_from (Ok expr) (Err f) e h = absurd h
  items_from (Err f) a e h = tt

  pub items_are : IfOk (parse_of p days wanted text) (λ expr. Different (items_of expr.tree) [] expr.items)
  items_are = items_from (parse_of p days wanted text) (accepted p days wanted text) refl meant

  -- and their places are those in the form
  places_of_one : (expr : Expr) (nodes : Nodes) → accepted p days wanted text ≡ Ok nodes → IsOf text days expr nodes → ListsItems p days text expr
  unfolding accepted
  places_of_one expr nodes e is F isF =
      let n = nodes_read p text nodes (text_ok text days wanted (nodes_of_text p text) nodes e) in
      let t = text_told p days text n.0 F isF in
      let same : nodes ≡ t.whole.nodes = ok_is nodes t.whole.nodes (sym n.1 ∙ t.whole.read) in
      subst (λ (l : List Occurrence). Lists l (items_in expr) (places_in expr)) (ap (λ (x : Nodes). occurrences text days x.nodes) same ∙ t.lists) is.items

  places_from : (r : Result Expr ExprFault) (a : Result Nodes ExprFault) → accepted p days wanted text ≡ a → Accepts (IsOf text days) r a
      → IfOk r (λ expr. ListsItems p days text expr)
  places_from (Ok expr) (Ok nodes) e h = places_of_one expr nodes e h
  places_from (Ok expr) (Err f) e h = absurd h
  places_from (Err f) a e h = tt

  pub places_are : IfOk (parse_of p days wanted text) (λ expr. ListsItems p days text expr)
  places_are = places_from (parse_of p days wanted text) (accepted p days wanted text) refl meant

  -- the bytes before a fault of syntax begin a text of the grammar, and with one more none does
  pub before_fault : IfErr (parse_of p days wanted text) (λ f. IfSyntax f (GoesOnAt p text))
  before_fault = goes_on p text days wanted (parse_of p days wanted text) meant

  pub ends_at : IfErr (parse_of p days wanted text) (λ f. IfSyntax f (EndsAt p text))
  ends_at = ends_so p text days wanted (parse_of p days wanted text) meant
