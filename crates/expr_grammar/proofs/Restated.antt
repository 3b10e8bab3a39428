-- The public clauses, from what is proved by the words of what lies in memory.
use Rattle.std.proofs.Common.{◌≡◌, ℕ, Bool, true, false, cond, List, [], ◌∷◌, ◌++◌, length, Option, Some, Result, Ok, Err, refl, sym, ap, subst}
use Rattle.std.proofs.Common.{◌∙◌, arith}
use Rattle.std.specs.Prelude.{nat_lt}
use Rattle.expr_lang.specs.declared.tree.Place.{Place}
use Rattle.expr_lang.specs.declared.tree.Sort.{Sort}
use Rattle.expr_lang.specs.declared.tree.Sort.TheVariants as sort
use Rattle.expr_lang.specs.declared.tree.Unary.{Unary}
use Rattle.expr_lang.specs.declared.tree.Unary.TheVariants as unary
use Rattle.expr_lang.specs.declared.words.Call.{Call}
use Rattle.expr_lang.specs.declared.words.Call.TheVariants as call
use Rattle.expr_lang.specs.declared.words.Symbol.TheVariants as symbol
use Rattle.expr_lang.specs.declared.fault.ExprFault.{ExprFault}
use Rattle.expr_lang.specs.declared.fault.ExprFault.TheVariants as fault
use Rattle.expr_lang.specs.Expr.{parse_of}
use Rattle.expr_lang.specs.Expression.{Expression}
use Rattle.expr_lang.specs.Item.{item_from}
use Rattle.expr_lang.specs.Leaves.{item_leaf}
use Rattle.expr_lang.specs.Print.{text_from, left_level_of, right_level_of, IsPrintOf}
use Rattle.expr_lang.specs.Shape.{Shape}
use Rattle.expr_lang.specs.Stored.{syntax_of}
use Rattle.expr_lang.specs.Survey.{taken_by_of, taken_by_two}
use Rattle.expr_lang.specs.Syntax.{Syntax}
use Rattle.expr_grammar.specs.Brackets.{crowded_bracket}
use Rattle.expr_grammar.specs.Fewest.{IsPrintedAgain}
use Rattle.expr_grammar.specs.Grammar.{Form, Number, Item, Bracket, Power, Sign, Chain, Arguments, If, Condition, DaysBetween, Apply, IsForm, IsWhole, IsSign}
use Rattle.expr_grammar.specs.Grammar.{Takes, arguments_level, symbol_text, spelled, after_blanks, sign_of, function_of, tree_of}
use Rattle.expr_grammar.specs.Limits.{IsFlat, is_sorted, AnswersBy}
use Rattle.expr_grammar.specs.Misfits.{place_of, is_number, clash_of, misfits_of, least_of, first_misfit}
use Rattle.expr_grammar.specs.Sorts.{depth_of, taken_signed, taken_called}
use Rattle.expr_grammar.proofs.Answered.{found}
use Rattle.expr_grammar.proofs.Bridge.{Same, has_same, taken_same, operand_same, taken_operator, facts, told, stored_apart}
use Rattle.expr_grammar.proofs.PrintedFewest.{printed_again}
use Rattle.expr_grammar.proofs.Stored as old
use Rattle.expr_grammar.proofs.Stored.{applied}

-- ---- where the sorts don't fit

taken_sign : (sign : Unary) → IsSign sign → ◌≡◌ {A = Option Sort} (Some (taken_signed (sign_of sign))) (taken_by_of sign)
taken_sign unary.Negate h = refl
taken_sign unary.Not h = refl
taken_sign (unary.Power n) h = absurd h
taken_sign unary.IsNull h = absurd h
taken_sign unary.IsNotNull h = absurd h
taken_sign unary.FirstNonNull h = absurd h
taken_sign unary.Greatest h = absurd h
taken_sign unary.Least h = absurd h
taken_sign unary.HasValue h = absurd h
taken_sign unary.Zing h = absurd h
taken_sign unary.Oizp h = absurd h

taken_call : (name : Call) (arguments : Form) → Takes name arguments → taken_called (function_of name) ≡ taken_by_of (applied name)
taken_call call.IsNull arguments h = refl
taken_call call.IsNotNull arguments h = refl
taken_call call.FirstNonNull arguments h = refl
taken_call call.Greatest arguments h = refl
taken_call call.Least arguments h = refl
taken_call call.HasValue arguments h = refl
taken_call call.Zing arguments h = refl
taken_call call.Oizp arguments h = refl
taken_call call.If arguments h = absurd h
taken_call call.Condition arguments h = absurd h
taken_call call.DaysBetween arguments h = absurd h

joined : {A : Type 0} (xs ys zs us : List A) → xs ≡ ys → zs ≡ us → xs ++ zs ≡ ys ++ us
joined xs ys zs us e f = ap (λ l. l ++ zs) e ∙ ap (λ l. ys ++ l) f

clash_same : (taker at : ℕ) (taken : Option Sort) (x : Syntax) (s : Shape) → Same x s → clash_of taker at taken x ≡ old.clash_of taker at taken s
clash_same taker at taken x s a =
    ap (λ (b : Bool). cond b [] (cond (is_number x) (taker ∷ []) (taker ∷ at ∷ []))) (has_same taken x s a.sort)
    ∙ ap (λ (b : Bool). cond (old.has_sort taken s) [] (cond b (taker ∷ []) (taker ∷ at ∷ []))) a.number

module _ (days : List (List ℕ)) (total : ℕ) (p : Place) where
  misfits_same : (q : Bool) (least : ℕ) (F : Form) → IsForm p q least F → (taken : Option Sort) (taker : ℕ) (rest : List ℕ)
      → misfits_of days total taker taken F rest ≡ old.misfits_of days total taker taken F rest
  misfits_same q least (Number b digits decimals) h taken taker rest =
      clash_same taker (place_of total (Number b digits decimals) rest) taken _ _ ((facts days p q least (Number b digits decimals) h).one tt).same
  misfits_same q least (Item b form word) h taken taker rest =
      clash_same taker (place_of total (Item b form word) rest) taken _ _ ((facts days p q least (Item b form word) h).one tt).same
  misfits_same q least (Bracket b inner c) h taken taker rest = misfits_same q 1 inner h.1 taken taker (symbol_text c symbol.Close rest)
  misfits_same q least (Power atom b c digits) h taken taker rest =
      let at = place_of total (Power atom b c digits) rest in
      joined _ _ _ _ (clash_same taker at taken _ _ ((facts days p q least (Power atom b c digits) h).one tt).same)
      (misfits_same q 8 atom h.1 (Some sort.Number) at (symbol_text b symbol.Caret (after_blanks c digits rest)))
  misfits_same q least (Sign b sign operand) h taken taker rest =
      let at = place_of total (Sign b sign operand) rest in
      joined _ _ _ _ (clash_same taker at taken _ _ ((facts days p q least (Sign b sign operand) h).one tt).same)
      (ap (λ (k : Option Sort). misfits_of days total at k operand rest) (taken_sign sign h.2)
      ∙ misfits_same q 6 operand h.3 (taken_by_of sign) at rest)
  misfits_same q least (Chain left b operator right) h taken taker rest =
      let at = place_of total (Chain left b operator right) rest in
      let mid = symbol_text b (symbol.Operator operator) (spelled right rest) in
      let k = taken_operator operator h.0 in
      joined _ _ _ _ (clash_same taker at taken _ _ ((facts days p q least (Chain left b operator right) h).one tt).same)
      (joined _ _ _ _ (ap (λ (t : Sort). misfits_of days total at (Some t) left mid) k
      ∙ misfits_same q (left_level_of operator) left h.2 (Some (taken_by_two operator)) at mid)
      (ap (λ (t : Sort). misfits_of days total at (Some t) right rest) k
      ∙ misfits_same q (right_level_of operator) right h.4 (Some (taken_by_two operator)) at rest))
  misfits_same q least (Arguments first b last) h taken taker rest =
      joined _ _ _ _ (misfits_same q 0 first h.1 (Some sort.Number) taker (symbol_text b symbol.Comma (spelled last rest)))
      (misfits_same q 1 last h.3 (Some sort.Number) taker rest)
  misfits_same q least (If b c test d one e other f) h taken taker rest =
      let at = place_of total (If b c test d one e other f) rest in
      let third = spelled other (symbol_text f symbol.Close rest) in
      joined _ _ _ _ (clash_same taker at taken _ _ ((facts days p q least (If b c test d one e other f) h).one tt).same)
      (joined _ _ _ _ (misfits_same q 1 test h.3 (Some sort.Truth) at (symbol_text d symbol.Comma (spelled one (symbol_text e symbol.Comma third))))
      (joined _ _ _ _ (misfits_same q 1 one h.5 (Some sort.Number) at (symbol_text e symbol.Comma third))
      (misfits_same q 1 other h.7 (Some sort.Number) at (symbol_text f symbol.Close rest))))
  misfits_same q least (Condition b c d test e f one g other i) h taken taker rest =
      let at = place_of total (Condition b c d test e f one g other i) rest in
      let third = spelled other (symbol_text i symbol.Close rest) in
      let second = spelled one (symbol_text g symbol.Comma third) in
      joined _ _ _ _ (clash_same taker at taken _ _ ((facts days p q least (Condition b c d test e f one g other i) h).one tt).same)
      (joined _ _ _ _ (misfits_same true 1 test h.5 (Some sort.Truth) at (symbol_text e symbol.Quote (symbol_text f symbol.Comma second)))
      (joined _ _ _ _ (misfits_same q 1 one h.8 (Some sort.Number) at (symbol_text g symbol.Comma third))
      (misfits_same q 1 other h.10 (Some sort.Number) at (symbol_text i symbol.Close rest))))
  misfits_same q least (DaysBetween b c one d other e) h taken taker rest =
      let at = place_of total (DaysBetween b c one d other e) rest in
      joined _ _ _ _ (clash_same taker at taken _ _ ((facts days p q least (DaysBetween b c one d other e) h).one tt).same)
      (joined _ _ _ _ (misfits_same q 1 one h.3 (Some sort.Day) at (symbol_text d symbol.Comma (spelled other (symbol_text e symbol.Close rest))))
      (misfits_same q 1 other h.5 (Some sort.Day) at (symbol_text e symbol.Close rest)))
  misfits_same q least (Apply b name c arguments d) h taken taker rest =
      let at = place_of total (Apply b name c arguments d) rest in
      joined _ _ _ _ (clash_same taker at taken _ _ ((facts days p q least (Apply b name c arguments d) h).one tt).same)
      (ap (λ (k : Option Sort). misfits_of days total at k arguments (symbol_text d symbol.Close rest)) (taken_call name arguments h.4)
      ∙ misfits_same q (arguments_level name) arguments h.3 (taken_by_of (applied name)) at (symbol_text d symbol.Close rest))

  whole_misfits : (F : Form) → IsWhole p F → (taken : Option Sort) (taker : ℕ) (rest : List ℕ)
      → misfits_of days total taker taken F rest ≡ old.misfits_of days total taker taken F rest
  whole_misfits (Item b form word) h taken taker rest =
      clash_same taker (place_of total (Item b form word) rest) taken _ _ (operand_same (item_leaf days (item_from form word)))
  whole_misfits (Number b digits decimals) h taken taker rest = misfits_same false 1 (Number b digits decimals) h taken taker rest
  whole_misfits (Bracket b inner c) h taken taker rest = misfits_same false 1 (Bracket b inner c) h taken taker rest
  whole_misfits (Power atom b c digits) h taken taker rest = misfits_same false 1 (Power atom b c digits) h taken taker rest
  whole_misfits (Sign b sign operand) h taken taker rest = misfits_same false 1 (Sign b sign operand) h taken taker rest
  whole_misfits (Chain left b operator right) h taken taker rest = misfits_same false 1 (Chain left b operator right) h taken taker rest
  whole_misfits (Arguments first b last) h taken taker rest = misfits_same false 1 (Arguments first b last) h taken taker rest
  whole_misfits (If b c test d one e other f) h taken taker rest = misfits_same false 1 (If b c test d one e other f) h taken taker rest
  whole_misfits (Condition b c d test e f one g other i) h taken taker rest = misfits_same false 1 (Condition b c d test e f one g other i) h taken taker rest
  whole_misfits (DaysBetween b c one d other e) h taken taker rest = misfits_same false 1 (DaysBetween b c one d other e) h taken taker rest
  whole_misfits (Apply b name c arguments d) h taken taker rest = misfits_same false 1 (Apply b name c arguments d) h taken taker rest

-- ---- what is read

module _ (p : Place) (days : List (List ℕ)) (wanted : Option Sort) (text : List ℕ) where
  deep_same : (F : Form) → IsWhole p F → depth_of (tree_of days F) ≡ old.depth_of (old.tree_of days F)
  deep_same F h = (told days p F h).same.depth

  flat_from : (F : Form) → IsWhole p F → old.IsFlat days F → IsFlat days F
  flat_from F h flat = (flat.0, let d = deep_same F h in let e = flat.1 in omega (arith, d, e))

  flat_to : (F : Form) → IsWhole p F → IsFlat days F → old.IsFlat days F
  flat_to F h flat = (flat.0, let d = deep_same F h in let e = flat.1 in omega (arith, d, e))

  sorted_same : (F : Form) → IsWhole p F → is_sorted wanted (tree_of days F) ≡ old.is_sorted wanted (old.tree_of days F)
  sorted_same F h = taken_same wanted (tree_of days F) (old.tree_of days F) (told days p F h).same

  pub first_same : (F : Form) (blanks : List ℕ) → IsWhole p F → first_misfit days wanted text F blanks ≡ old.first_misfit days wanted text F blanks
  first_same F blanks h = ap least_of (whole_misfits days (length text) p F h wanted (place_of (length text) F blanks) blanks)

  answers_from : (r : Result Expression ExprFault) → old.AnswersBy p days wanted text r → AnswersBy p days wanted text r
  answers_from (Ok expr) (F, is, flat, sorted, same) = (
    F,
    is,
    flat_from F is.0.0 flat,
    sorted_same F is.0.0 ∙ sorted,
    sym (told days p F is.0.0).stored ∙ same,
  )
  answers_from (Err (fault.Syntax at)) h = h
  answers_from (Err (fault.TooDeep at)) (F, is, deep, place) = (
    F,
    is,
    λ flat. deep (flat_to F is.0.0 flat),
    ap (λ (n : ℕ). cond (nat_lt 512 n) (Some 0) (crowded_bracket text)) (deep_same F is.0.0) ∙ place,
  )
  answers_from (Err (fault.Sort at)) (F, is, flat, sorted, place) =
      (F, is, flat_from F is.0.0 flat, sorted_same F is.0.0 ∙ sorted, first_same F is.0.1 is.0.0 ∙ place)
  answers_from (Err fault.Memory) h = h

  pub read_so : AnswersBy p days wanted text (parse_of p days wanted text)
  read_so = answers_from (parse_of p days wanted text) (found p days wanted text)

-- ---- what is printed

printed_so : (tree : Shape) (text : List ℕ) → text ≡ text_from 0 tree → IsPrintedAgain (syntax_of tree) text
printed_so tree text is p days form h same =
    let r = printed_again tree text is p days form h (stored_apart days p form tree h same) in
    record {
      form = r.form;
      again = r.again;
      same = sym (told days p r.form r.again.0).stored ∙ ap syntax_of r.same;
      fewest = λ other k e. r.fewest other k (stored_apart days p other tree k e);
      flattest = λ other k e. r.flattest other k (stored_apart days p other tree k e);
      shortest = λ other others k e. r.shortest other others k (stored_apart days p other tree k.0 e);
    }

pub printed_again_so : (tree : Syntax) (text : List ℕ) → IsPrintOf tree text → IsPrintedAgain tree text
printed_again_so tree text is = subst (λ (t : Syntax). IsPrintedAgain t text) is.same (printed_so is.shape text is.written)
