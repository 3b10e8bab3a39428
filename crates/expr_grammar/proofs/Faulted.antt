-- Where an answer is a fault of syntax, the bytes before it begin a text of the grammar, or so inside a quoted text.
use Rattle.std.proofs.Common.{◌≡◌, ℕ, ◌<◌, ◌≤◌, zero, suc, Bool, true, false, cond, List, [], ◌∷◌, ◌++◌, length, take, Option, Some, None, Result, Ok, Err}
use Rattle.std.proofs.Common.{refl, ap, subst, ◌⊎◌, ◌∙◌, inl, arith}
use Rattle.std.specs.Prelude.{IfErr, nat_le, nat_lt}
use Rattle.std.proofs.lemmas.Bool.Decides.{nat_tests}
use Rattle.expr_lang.specs.declared.tree.Place.{Place}
use Rattle.expr_lang.specs.declared.tree.Sort.{Sort}
use Rattle.expr_lang.specs.declared.reading.Nodes.{Nodes}
use Rattle.expr_lang.specs.declared.expr.Expr.{Expr}
use Rattle.expr_lang.specs.declared.fault.ExprFault.{ExprFault}
use Rattle.expr_lang.specs.declared.fault.ExprFault.TheVariants as fault
use Rattle.expr_lang.specs.Expr.{IsOf}
use Rattle.expr_lang.specs.Faults.{IfSyntax}
use Rattle.expr_lang.specs.Parse.{accepted, Accepts, cut_short, nodes_of_text, judged_text, brackets_judged}
use Rattle.expr_lang.specs.Reading.{read_text}
use Rattle.expr_lang.specs.Survey.{survey_of, misfit_of}
use Rattle.expr_grammar.specs.Continues.{GoesOn, EndsInQuote, GoesOnAt}
use Rattle.expr_grammar.proofs.Continued.{text_stops}
use Rattle.expr_grammar.proofs.Sound.{text_sound}

nothing_behind : (xs : List ℕ) → xs ++ [] ≡ xs
nothing_behind [] = refl
nothing_behind (x ∷ xs) = ap (λ (l : List ℕ). x ∷ l) (nothing_behind xs)

take_short : (m n : ℕ) (xs : List ℕ) → n ≤ m → take n (take m xs) ≡ take n xs
take_short m zero xs le = refl
take_short zero (suc n) xs le = absurd (omega arith)
take_short (suc m) (suc n) [] le = refl
take_short (suc m) (suc n) (x ∷ xs) le = ap (λ (l : List ℕ). x ∷ l) (take_short m n xs (omega arith))

take_long : (m : ℕ) (xs : List ℕ) → m ≤ length xs → length (take m xs) ≡ m
take_long zero xs le = refl
take_long (suc m) [] le = absurd (omega arith)
take_long (suc m) (x ∷ xs) le = ap suc (take_long m xs (omega arith))

never : (b : Bool) (crowded misfit : Option ℕ) (nodes : Nodes) (at : ℕ)
    → cond b (Err (fault.TooDeep 0)) (brackets_judged crowded misfit nodes) ≡ Err (fault.Syntax at) → ⊥
never true crowded misfit nodes at e = cc
never false (Some k) misfit nodes at e = cc
never false None (Some k) nodes at e = cc
never false None None nodes at e = cc

module _ (p : Place) (text : List ℕ) where
  -- a longer text, by its first 4,096 bytes
  cut_stops : (r : Result Nodes ℕ) (at : ℕ) → 4096 < length text → read_text p (take 4096 text) ≡ r → cut_short r ≡ Err at → GoesOnAt p text at
  cut_stops (Ok nodes) at long read e =
      let is : 4096 ≡ at = err_is 4096 at e in
      let F = text_sound p (take 4096 text) nodes read in
      subst (GoesOnAt p text) is (omega arith, inl ([], F.0, (F.1.0, F.1.1, F.1.2, nothing_behind (take 4096 text) ∙ F.1.3)))
    where
      err_is : (a b : ℕ) → ◌≡◌ {A = Result Nodes ℕ} (Err a) (Err b) → a ≡ b
      err_is a b e = cc
  cut_stops (Err k) at long read e =
      let is : k ≡ at = err_is k at e in
      let z = text_stops p (take 4096 text) k read in
      let few : k ≤ 4096 = omega (arith, z.0, take_long 4096 text (omega arith)) in
      subst (GoesOnAt p text) is (omega arith, subst (λ (l : List ℕ). GoesOn p l ⊎ EndsInQuote p l) (take_short 4096 k text few) z.1)
    where
      err_is : (a b : ℕ) → ◌≡◌ {A = Result Nodes ℕ} (Err a) (Err b) → a ≡ b
      err_is a b e = cc

  nodes_stop : (t : Bool) (r cut : Result Nodes ℕ) (at : ℕ) → nat_le (length text) 4096 ≡ t → read_text p text ≡ r → read_text p (take 4096 text) ≡ cut
      → cond t r (cut_short cut) ≡ Err at → GoesOnAt p text at
  nodes_stop true r cut at e f g h = text_stops p text at (f ∙ h)
  nodes_stop false r cut at e f g h = cut_stops cut at (grind (arith, nat_tests)) g h

  judged_stops : (days : List (List ℕ)) (wanted : Option Sort) (r : Result Nodes ℕ) (at : ℕ) → judged_text text days wanted r ≡ Err (fault.Syntax at)
      → r ≡ Err at
  judged_stops days wanted (Err k) at e = let is : k ≡ at = cc in ap (λ (x : ℕ). Err x) is
  judged_stops days wanted (Ok nodes) at e =
      absurd (never (nat_lt 512 (survey_of text days nodes.nodes).depth) nodes.crowded (misfit_of (survey_of text days nodes.nodes) wanted) nodes at e)

  accepted_stops : (days : List (List ℕ)) (wanted : Option Sort) (at : ℕ) → accepted p days wanted text ≡ Err (fault.Syntax at) → GoesOnAt p text at
  unfolding accepted nodes_of_text
  accepted_stops days wanted at e =
      nodes_stop (nat_le (length text) 4096) (read_text p text) (read_text p (take 4096 text)) at refl refl refl
      (judged_stops days wanted (cond (nat_le (length text) 4096) (read_text p text) (cut_short (read_text p (take 4096 text)))) at e)

  pub goes_on : (days : List (List ℕ)) (wanted : Option Sort) (r : Result Expr ExprFault)
      → Accepts (λ expr nodes. IsOf text days expr nodes) r (accepted p days wanted text) → IfErr r (λ f. IfSyntax f (GoesOnAt p text))
  goes_on days wanted (Ok expr) h = tt
  goes_on days wanted (Err fault.Memory) h = tt
  goes_on days wanted (Err (fault.Syntax at)) h = accepted_stops days wanted at h
  goes_on days wanted (Err (fault.TooDeep at)) h = tt
  goes_on days wanted (Err (fault.Sort at)) h = tt
