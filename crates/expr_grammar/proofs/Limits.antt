-- What is answered for a text, from what is read of it.
use Rattle.std.proofs.Common.{◌≡◌, ℕ, ◌<◌, ◌≤◌, Bool, true, false, cond, List, length, take, Option, Some, None, Result, Ok, Err, refl, sym, ap, subst, ◌∙◌}
use Rattle.std.proofs.Common.{arith}
use Rattle.std.specs.Prelude.{nat_le, nat_lt, is_none}
use Rattle.std.proofs.lemmas.Bool.Decides.{nat_tests}
use Rattle.expr_lang.specs.declared.tree.Place.{Place}
use Rattle.expr_lang.specs.declared.tree.Sort.{Sort}
use Rattle.expr_lang.specs.declared.reading.Nodes.{Nodes}
use Rattle.expr_lang.specs.declared.fault.ExprFault.{ExprFault}
use Rattle.expr_lang.specs.declared.fault.ExprFault.TheVariants as fault
use Rattle.expr_lang.specs.Build.{built}
use Rattle.expr_lang.specs.Expr.{expression_from, parse_of}
use Rattle.expr_lang.proofs.ExprLemmas.{IsOf-expression_of}
use Rattle.expr_lang.specs.Parse.{accepted, cut_short, nodes_of_text, judged_text, brackets_judged}
use Rattle.expr_lang.specs.Reading.{read_text}
use Rattle.expr_lang.specs.Stored.{syntax_of}
use Rattle.expr_lang.specs.Survey.{survey_of, misfit_of}
use Rattle.expr_lang.specs.declared.survey.Known.{Known}
use Rattle.expr_grammar.specs.Brackets.{crowded_bracket}
use Rattle.expr_grammar.specs.Limits.{IsWritten}
use Rattle.expr_grammar.proofs.Stored.{IsFlat, is_sorted, AnswersBy}
use Rattle.expr_grammar.proofs.Stored.{first_misfit}
use Rattle.expr_grammar.proofs.Stored.{depth_of}
use Rattle.expr_grammar.specs.Fewest.{open_of}
use Rattle.expr_grammar.specs.Grammar.{Form, IsTextOf}
use Rattle.expr_grammar.proofs.Stored.{tree_of}
use Rattle.expr_grammar.proofs.PrintedOpen.{crowded_is}
use Rattle.expr_grammar.proofs.PrintedSurvey.{IsKnown, survey_is, misfit_is}
use Rattle.expr_grammar.proofs.Crowded.{crowded_at}
use Rattle.expr_grammar.proofs.Misfitting.{whole_first}
use Rattle.expr_grammar.proofs.Texts.{text_read, text_told}

-- the same of the nodes
abbrev NodesBy : Place → List (List ℕ) → Option Sort → List ℕ → Result Nodes ExprFault → Type 0
NodesBy p days wanted text (Ok nodes) =
    (F : Form) × IsWritten p text F × IsFlat days F × (is_sorted wanted (tree_of days F) ≡ true) × (tree_of days F ≡ built text days nodes.nodes)
NodesBy p days wanted text (Err f) = AnswersBy p days wanted text (Err f)

-- each text that is read has a form
abbrev pub IsFound : Place → List ℕ → Type 0
IsFound p text = (nodes : Nodes) → read_text p text ≡ Ok nodes → (F : Form) × IsTextOf p text F

module _ (p : Place) (days : List (List ℕ)) (wanted : Option Sort) (text : List ℕ) where
  same_nodes : (a b : Nodes) (r : Result Nodes ℕ) → r ≡ Ok a → r ≡ Ok b → a ≡ b
  same_nodes a b r e f = cc

  no_nodes : (a : Nodes) (at : ℕ) (r : Result Nodes ℕ) → r ≡ Ok a → r ≡ Err at → ⊥
  no_nodes a at r e f = cc

  judged_by : (F : Form) (from : Nodes) → (is : IsWritten p text F) → crowded_bracket text ≡ from.crowded
      → first_misfit days wanted text F is.0.1 ≡ misfit_of (survey_of text days from.nodes) wanted → IsKnown (survey_of text days from.nodes) (tree_of days F)
      → is_none from.crowded ≡ nat_le (open_of F) 64 → tree_of days F ≡ built text days from.nodes
      → (t : Bool) (crowded misfit : Option ℕ) → nat_lt 512 (survey_of text days from.nodes).depth ≡ t → from.crowded ≡ crowded
      → misfit_of (survey_of text days from.nodes) wanted ≡ misfit
      → NodesBy p days wanted text (cond t (Err (fault.TooDeep 0)) (brackets_judged crowded misfit from))
  judged_by F from is first least known count tree true crowded misfit a b c =
      let deep : 512 < (survey_of text days from.nodes).depth = grind (arith, nat_tests) in
      let far : nat_lt 512 (depth_of (tree_of days F)) ≡ true =
      (let more : 512 < depth_of (tree_of days F) = omega (arith, known.depth, deep) in grind (arith, nat_tests)) in
      (F, is, λ flat. omega (arith, known.depth, deep, flat.1), ap (λ (t : Bool). cond t (Some 0) (crowded_bracket text)) far)
  judged_by F from is first least known count tree false (Some at) misfit a b c =
      let e : nat_le (open_of F) 64 ≡ false = sym count ∙ ap (λ (o : Option ℕ). is_none o) b in
      let many : 64 < open_of F = grind (arith, nat_tests) in
      let low : (survey_of text days from.nodes).depth ≤ 512 = grind (arith, nat_tests) in
      let near : nat_lt 512 (depth_of (tree_of days F)) ≡ false =
      (let less : depth_of (tree_of days F) ≤ 512 = omega (arith, known.depth, low) in grind (arith, nat_tests)) in
      (F, is, λ flat. omega (arith, many, flat.0), ap (λ (t : Bool). cond t (Some 0) (crowded_bracket text)) near ∙ first ∙ b)
  judged_by F from is first least known count tree false None misfit a b c =
      let e : nat_le (open_of F) 64 ≡ true = sym count ∙ ap (λ (o : Option ℕ). is_none o) b in
      let few : open_of F ≤ 64 = grind (arith, nat_tests) in
      let low : (survey_of text days from.nodes).depth ≤ 512 = grind (arith, nat_tests) in
      let flat : IsFlat days F = (few, omega (arith, known.depth, low)) in
      by_sorts misfit flat (least ∙ c) (sym (misfit_is (survey_of text days from.nodes) (tree_of days F) wanted known) ∙ ap (λ (o : Option ℕ). is_none o) c)
    where
      by_sorts : (misfit : Option ℕ) → IsFlat days F → first_misfit days wanted text F is.0.1 ≡ misfit → is_sorted wanted (tree_of days F) ≡ is_none misfit
          → NodesBy p days wanted text (brackets_judged None misfit from)
      by_sorts None flat at fits = (F, is, flat, fits, tree)
      by_sorts (Some k) flat at fits = (F, is, flat, fits, at)

  read_by : (t : Bool) (r cut : Result Nodes ℕ) → IsFound p text → nat_le (length text) 4096 ≡ t → read_text p text ≡ r
      → NodesBy p days wanted text (judged_text text days wanted (cond t r (cut_short cut)))
  read_by false r (Ok x) found e f = let long : 4096 < length text = grind (arith, nat_tests) in λ F is. omega (arith, long, is.1)
  read_by false r (Err at) found e f = let long : 4096 < length text = grind (arith, nat_tests) in λ F is. omega (arith, long, is.1)
  read_by true (Err at) cut found e f =
      λ F is. no_nodes (text_read p days text is.1 F is.0).nodes at (read_text p text) (text_read p days text is.1 F is.0).read f
  read_by true (Ok from) cut found e f =
      let F = found from f in
      let short : length text ≤ 4096 = grind (arith, nat_tests) in
      let r = text_read p days text short F.0 F.1 in
      let same : r.nodes ≡ from = same_nodes r.nodes from (read_text p text) r.read f in
      let t = text_told p days text short F.0 F.1 in
      let also : t.whole.nodes ≡ from = same_nodes t.whole.nodes from (read_text p text) t.whole.read f in
      let least : first_misfit days wanted text F.0 F.1.1 ≡ misfit_of (survey_of text days from.nodes) wanted =
      whole_first p days (length text) F.0 wanted F.1.1 F.1.0
      ∙ ap (λ (k : Known). misfit_of k wanted) (sym t.known)
      ∙ ap (λ (n : Nodes). misfit_of (survey_of text days n.nodes) wanted) also in
      let known =
      subst (λ (n : Nodes). IsKnown (survey_of text days n.nodes) (tree_of days F.0)) same (survey_is text days r.nodes.nodes (tree_of days F.0) r.evals.is)
      in
      judged_by F.0 from (F.1, short) (sym (crowded_at p text from f)) least known (crowded_is p text F.0 from F.1 f) (sym r.tree
      ∙ ap (λ (n : Nodes). built text days n.nodes) same)
      (nat_lt 512 (survey_of text days from.nodes).depth) from.crowded (misfit_of (survey_of text days from.nodes) wanted) refl refl refl

  nodes_by : IsFound p text → NodesBy p days wanted text (accepted p days wanted text)
  unfolding accepted nodes_of_text
  nodes_by found = read_by (nat_le (length text) 4096) (read_text p text) (read_text p (take 4096 text)) found refl refl

  meant_from : (r : Result Nodes ExprFault) → NodesBy p days wanted text r → AnswersBy p days wanted text (expression_from text days r)
  meant_from (Ok nodes) by = (by.0, by.1, by.2, by.3, ap syntax_of by.4 ∙ sym (IsOf-expression_of text days nodes).tree)
  meant_from (Err f) by = by

  -- what is meant is found in the grammar
  pub meant_by : IsFound p text → AnswersBy p days wanted text (parse_of p days wanted text)
  unfolding parse_of
  meant_by found = meant_from (accepted p days wanted text) (nodes_by found)

  -- where a text is at fault it isn't of the grammar
  pub none_of : IsFound p text → (at : ℕ) → accepted p days wanted text ≡ Err (fault.Syntax at) → (F : Form) → ¬ (IsWritten p text F)
  none_of found at e = subst (NodesBy p days wanted text) e (nodes_by found)
