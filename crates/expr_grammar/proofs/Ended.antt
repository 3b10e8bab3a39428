-- With the byte at a fault of syntax nothing goes on.
use Rattle.std.proofs.Common.{◌≡◌, ℕ, suc, ◌+◌, ◌-◌, ◌<◌, ◌≤◌, Bool, true, false, cond, List, [], ◌∷◌, ◌++◌, length, take, Option, None, Result, Ok, Err}
use Rattle.std.proofs.Common.{refl, sym, ap, subst, ◌⊎◌, ◌∙◌, inl, inr, append_assoc, length-append, arith}
use Rattle.std.specs.Prelude.{IfErr, is_none}
use Rattle.std.proofs.lemmas.Bool.{cases_lt}
use Rattle.std.proofs.lemmas.List.{append-nil, take_all, length-take}
use Rattle.expr_lang.specs.declared.tree.Place.{Place}
use Rattle.expr_lang.specs.declared.tree.Sort.{Sort}
use Rattle.expr_lang.specs.declared.words.Symbol.TheVariants as symbol
use Rattle.expr_lang.specs.declared.words.ItemForm.{ItemForm}
use Rattle.expr_lang.specs.declared.reading.Spot.{Spot}
use Rattle.expr_lang.specs.declared.reading.Node.TheVariants as node
use Rattle.expr_lang.specs.declared.reading.Frame.{Frame}
use Rattle.expr_lang.specs.declared.reading.Expect.{Expect}
use Rattle.expr_lang.specs.declared.reading.Expect.TheVariants as expect
use Rattle.expr_lang.specs.declared.reading.Token.TheVariants as token
use Rattle.expr_lang.specs.declared.reading.Reader.{Reader}
use Rattle.expr_lang.specs.declared.reading.Nodes.{Nodes}
use Rattle.expr_lang.specs.declared.expr.Expr.{Expr}
use Rattle.expr_lang.specs.declared.fault.ExprFault.{ExprFault}
use Rattle.expr_lang.specs.declared.fault.ExprFault.TheVariants as fault
use Rattle.expr_lang.specs.Expr.{IsOf}
use Rattle.expr_lang.specs.Faults.{IfSyntax}
use Rattle.expr_lang.specs.Parse.{nodes_of_text, accepted, Accepts}
use Rattle.expr_lang.specs.Reading.{enclosing_of, nodes_reduced, spot_of, is_count_of, ended, read_rest, read_text, most_words, new_reader}
use Rattle.expr_grammar.specs.Continues.{GoesOn, BeginsExpression, HasNoQuote, OpensQuote, Begins, EndsAt}
use Rattle.expr_grammar.specs.Grammar.{Form, Number, Item, Bracket, Power, Sign, Chain, Arguments, If, Condition, DaysBetween, Apply, IsBlank, IsForm}
use Rattle.expr_grammar.specs.Grammar.{IsWhole, spelled}
use Rattle.expr_grammar.proofs.Local.{Agrees, agrees_taken, same_fault, syntax_fault, short_is, long_is, cut_cases, nodes_fault}
use Rattle.expr_grammar.proofs.Words.{drop_front}
use Rattle.expr_grammar.proofs.Steps.{At, Goes, step}
use Rattle.expr_grammar.proofs.Moves.{rd, IsOpen, item_token, all_may}
use Rattle.expr_grammar.proofs.Every.{reads}
use Rattle.expr_grammar.proofs.Texts.{read_end, no_follow}
use Rattle.expr_grammar.proofs.Stages.{Wants}
use Rattle.expr_grammar.proofs.Continued.{text_stops}
use Rattle.expr_grammar.proofs.Alone.{Twin}
use Rattle.expr_grammar.proofs.Fuel.{enough}
use Rattle.expr_grammar.proofs.Locked.{locked}
use Rattle.expr_grammar.proofs.Opening.{opening_split}
use Rattle.expr_grammar.proofs.Opened.{walk}
use Rattle.expr_grammar.proofs.Few.{Few}
use Rattle.expr_grammar.proofs.Trim.{trim, few_trim, trim_is, trim_whole, trim_begins, trim_starts}

words_limit : most_words ≡ 4097
unfolding most_words
words_limit = refl

-- ---- what is of the grammar is read

done_operator : (power : Bool) (frames : List Frame) (nodes own : List Spot) (o : ℕ) (c : Option ℕ) (at : ℕ) → enclosing_of frames ≡ None
    → nodes_reduced 1 frames nodes ≡ own → ended (rd (expect.Operator power) frames nodes o c false) at ≡ Ok (record { nodes = own; crowded = c })
done_operator power frames nodes own o c at outer whole =
    ap (λ (x : Option Frame). cond (is_none x) (Ok (record { nodes = nodes_reduced 1 frames nodes; crowded = c })) (Err at)) outer
    ∙ ap (λ (x : List Spot). Ok (record { nodes = x; crowded = c })) whole

ended_item : (t : Bool) (s : Spot) (at : ℕ)
    → ended (rd (cond t expect.End (expect.Operator true)) [] (s ∷ []) 0 None false) at ≡ Ok (record { nodes = s ∷ []; crowded = None })
ended_item true s at = refl
ended_item false s at = refl

clash : (nodes : Nodes) (at : ℕ) → ◌≡◌ {A = Result Nodes ℕ} (Err at) (Ok nodes) → ⊥
clash nodes at e = cc

module _ (p : Place) where
  -- a reader comes to the end, with as much fuel as is wanted
  record Reaches (r : Reader) (at : ℕ) (bytes : List ℕ) (k : ℕ) : Type 0 where
    fuel : ℕ
    many : k ≤ fuel
    nodes : Nodes
    read : read_rest p fuel r at bytes ≡ Ok nodes

  expression_read : (text : List ℕ) (F : Form) (blanks : List ℕ) (at : ℕ) (e : Expect) (k : ℕ) → IsOpen e → Few F → IsForm p false 1 F → IsBlank blanks
      → At text at (spelled F blanks) → Reaches (rd e [] [] 0 None false) at (spelled F blanks) k
  expression_read text F blanks at e k awaits few is blank here =
      let one =
      (reads p [] text F (inr few)).0 1 e [] [] 0 None false at blanks awaits (omega arith) is (λ le. tt) (λ le. refl) (no_follow blanks blank) here in
      record {
        fuel = one.goes.count + suc k;
        many = omega arith;
        nodes = record { nodes = one.own; crowded = one.crowded };
        read = one.goes.goes (suc k)
            ∙ read_end p k (rd (expect.Operator one.power) one.frames one.nodes one.opened one.crowded false) one.past blanks blank
            ∙ done_operator one.power one.frames one.nodes one.own one.opened one.crowded (one.past + length blanks) one.after.outer
            (one.after.whole 1 (omega arith));
      }

  start_at : (text : List ℕ) → At text 0 text
  start_at text = record { rest = refl; all = omega arith }

  item_read : (text b : List ℕ) (f : ItemForm) (word blanks : List ℕ) (k : ℕ) → IsWhole p (Item b f word) → IsBlank blanks
      → text ≡ spelled (Item b f word) blanks → Reaches new_reader 0 text k
  item_read text b f word blanks k is blank same =
      let here = subst (At text 0) same (start_at text) in
      let s = spot_of (0 + length b) (node.Item f) in
      let one =
      step p text (rd expect.Start [] [] 0 None false) 0 (token.Word (symbol.Item f)) b word blanks is.0 (
        is.1,
        all_may (symbol.Item f),
      ) is.2 (λ no. absurd cc) here in
      let to = rd (cond (is_count_of (node.Item f)) expect.End (expect.Operator true)) [] (s ∷ []) 0 None false in
      let there : Goes p text (rd expect.Start [] [] 0 None false) 0 (spelled (Item b f word) blanks) to (0 + length b + length word) blanks =
      subst (λ (x : Reader). Goes p text (rd expect.Start [] [] 0 None false) 0 (spelled (Item b f word) blanks) x (0 + length b + length word) blanks)
      (item_token expect.Start (0 + length b) f [] [] 0 None false tt) one in
      record {
        fuel = there.count + suc k;
        many = omega arith;
        nodes = record { nodes = s ∷ []; crowded = None };
        read = ap (read_rest p (there.count + suc k) new_reader 0) same ∙ there.goes (suc k)
            ∙ read_end p k to (0 + length b + length word) blanks blank
            ∙ ended_item (is_count_of (node.Item f)) s (0 + length b + length word + length blanks);
      }

  form_read : (text : List ℕ) (F : Form) (blanks : List ℕ) (k : ℕ) → Few F → IsForm p false 1 F → IsBlank blanks → text ≡ spelled F blanks
      → Reaches new_reader 0 text k
  form_read text F blanks k few is blank same =
      let r = expression_read text F blanks 0 expect.Start k tt few is blank (subst (At text 0) same (start_at text)) in
      record { fuel = r.fuel; many = r.many; nodes = r.nodes; read = ap (read_rest p r.fuel new_reader 0) same ∙ r.read }

  text_read : (text : List ℕ) (F : Form) (blanks : List ℕ) (k : ℕ) → Few F → IsWhole p F → IsBlank blanks → text ≡ spelled F blanks
      → Reaches new_reader 0 text k
  text_read text (Item b f word) blanks k few is blank same = item_read text b f word blanks k is blank same
  text_read text (Number b digits decimals) blanks k few is blank same = form_read text (Number b digits decimals) blanks k few is blank same
  text_read text (Bracket b inner c) blanks k few is blank same = form_read text (Bracket b inner c) blanks k few is blank same
  text_read text (Power atom b c digits) blanks k few is blank same = form_read text (Power atom b c digits) blanks k few is blank same
  text_read text (Sign b sign operand) blanks k few is blank same = form_read text (Sign b sign operand) blanks k few is blank same
  text_read text (Chain left b op right) blanks k few is blank same = form_read text (Chain left b op right) blanks k few is blank same
  text_read text (Arguments first b last) blanks k few is blank same = form_read text (Arguments first b last) blanks k few is blank same
  text_read text (If b c test d one e other f) blanks k few is blank same = form_read text (If b c test d one e other f) blanks k few is blank same
  text_read text (Condition b c d test e f one g other h) blanks k few is blank same =
      form_read text (Condition b c d test e f one g other h) blanks k few is blank same
  text_read text (DaysBetween b c one d other e) blanks k few is blank same = form_read text (DaysBetween b c one d other e) blanks k few is blank same
  text_read text (Apply b name c arguments d) blanks k few is blank same = form_read text (Apply b name c arguments d) blanks k few is blank same

  -- ---- what ends in a fault doesn't go on

  module _ (before : List ℕ) (at : ℕ) (short : length before ≤ 4096) (last : at + 1 ≡ length before) (read : read_text p before ≡ Err at) where
    longer : (more : List ℕ) → read_rest p most_words new_reader 0 (before ++ more) ≡ Err at
    unfolding read_text
    longer more =
        let n = suc (at - 0) in
        same_fault p most_words new_reader 0 before (before ++ more) at read (omega arith) (omega (arith, last))
        (subst (λ (l : List ℕ). Agrees n before (l ++ more)) (take_all n before (omega (arith, last))) (agrees_taken n before more (omega (arith, last))))

    no_text : GoesOn p before → ⊥
    no_text g =
        let F = g.1 in
        let is = g.2 in
        let t = trim_starts p F before g.0 is.1 short is.0 is.3 in
        let w = text_read (before ++ t.0) (trim F) is.1 (at + 1) (few_trim F) (trim_whole p F is.0) is.2 t.1 in
        clash w.nodes at
        (sym (enough p most_words w.fuel new_reader 0 at (before ++ t.0) (longer t.0) (omega (arith, last, short, words_limit)) (omega (arith, w.many)))
        ∙ w.read)

    no_quoted : (opening inner : List ℕ) → before ≡ opening ++ inner → OpensQuote opening → BeginsExpression p inner → HasNoQuote inner → 1 ≤ length inner → ⊥
    no_quoted opening inner whole opens begins plain some =
        let size : at + 1 ≡ length opening + length inner = last ∙ ap length whole ∙ length-append opening inner in
        let t = trim_begins p begins.form inner begins.more begins.blanks (omega (arith, size, last, short)) begins.is begins.same in
        let beyond = inner ++ t.0 in
        let o = opening_split opening opens in
        let all : before ++ t.0 ≡ o.0 ++ (39 ∷ beyond) = ap (λ (l : List ℕ). l ++ t.0) whole ∙ append_assoc opening inner t.0
        ∙ ap (λ (l : List ℕ). l ++ beyond) o.1 ∙ append_assoc o.0 (39 ∷ []) beyond in
        let outer : read_rest p most_words new_reader 0 (o.0 ++ (39 ∷ beyond)) ≡ Err at =
        ap (read_rest p most_words new_reader 0) (sym all) ∙ longer t.0 in
        let stood =
        walk p opening beyond opens at (omega (arith, size, some)) most_words (Wants []) new_reader 0 [] o.0
        (record { expect = refl; frames = refl; quoted = refl }) tt (λ rest. refl) refl o.1 outer (omega (arith, last, short, words_limit)) in
        let fresh = rd expect.Operand [] [] 0 None false in
        let twin : Twin stood.frames stood.reader fresh =
        record { expect = stood.expects; frames = stood.framed; quoted = stood.quoted; alone = refl; held = tt } in
        let alone =
        locked p stood.frames stood.fuel stood.reader fresh (length opening) at inner t.0 twin plain stood.read (omega (arith, size)) in
        let stands : At (opening ++ beyond) (length opening) beyond =
        record { rest = drop_front opening beyond; all = sym (length-append opening beyond) } in
        let w =
        expression_read (opening ++ beyond) (trim begins.form) begins.blanks (length opening) expect.Operand (at + 1) tt (few_trim begins.form)
        (trim_is p false 1 begins.form begins.is) begins.blank (subst (At (opening ++ beyond) (length opening)) t.1 stands) in
        clash w.nodes at
        (sym (enough p stood.fuel w.fuel fresh (length opening) at beyond alone stood.more (omega (arith, w.many)))
        ∙ ap (read_rest p w.fuel fresh (length opening)) t.1 ∙ w.read)

    none_or : (l : List ℕ) → (l ≡ []) ⊎ (1 ≤ length l)
    none_or [] = inl refl
    none_or (x ∷ xs) = inr (omega arith)

    begins_not : Begins p before → ⊥
    begins_not (inl g) = no_text g
    begins_not (inr q) =
        elim (none_or q.inner) [
          | inl none ↦ no_text
              (subst (GoesOn p) (sym (q.whole ∙ ap (λ (l : List ℕ). q.opening ++ l) none ∙ append-nil q.opening)) q.goes)
          | inr some ↦ no_quoted q.opening q.inner q.whole q.opens q.begins q.plain some
        ]

module _ (p : Place) (text : List ℕ) where
  -- no fault stands after byte 4096
  at_most : (at : ℕ) → nodes_of_text p text ≡ Err at → at ≤ 4096
  at_most at e =
      elim (cases_lt 4096 (length text)) [
        | inl long ↦ elim (cut_cases (read_text p (take 4096 text)) at (sym (long_is p text long) ∙ e)) [
          | inl cut ↦ omega (arith, (text_stops p (take 4096 text) at cut).0, length-take 4096 text)
          | inr last ↦ omega (arith, last)
        ]
        | inr short ↦ omega (arith, (text_stops p text at (sym (short_is p text short) ∙ e)).0, short)
      ]

  nodes_end : (at : ℕ) → nodes_of_text p text ≡ Err at → EndsAt p text at
  nodes_end at e = (at_most at e, λ within below. begins_not p (take (at + 1) text) at (size within below) (sym (long within)) (read within below))
    where
      long : at < length text → length (take (at + 1) text) ≡ at + 1
      long within = omega (arith, within, length-take (at + 1) text)

      size : at < length text → at < 4096 → length (take (at + 1) text) ≤ 4096
      size within below = omega (arith, within, below, length-take (at + 1) text)

      read : at < length text → at < 4096 → read_text p (take (at + 1) text) ≡ Err at
      read within below =
          sym (short_is p (take (at + 1) text) (omega (arith, within, below, length-take (at + 1) text)))
          ∙ ap (nodes_of_text p) (sym (append-nil (take (at + 1) text)))
          ∙ nodes_fault p text (take (at + 1) text ++ []) at within e (agrees_taken (at + 1) text [] (omega (arith, within)))

  accepted_ends : (days : List (List ℕ)) (wanted : Option Sort) (at : ℕ) → accepted p days wanted text ≡ Err (fault.Syntax at) → EndsAt p text at
  unfolding accepted
  accepted_ends days wanted at e = nodes_end at (syntax_fault text days wanted (nodes_of_text p text) at e)

  -- with the byte at a fault of syntax nothing goes on
  pub ends_so : (days : List (List ℕ)) (wanted : Option Sort) (r : Result Expr ExprFault)
      → Accepts (λ expr nodes. IsOf text days expr nodes) r (accepted p days wanted text) → IfErr r (λ f. IfSyntax f (EndsAt p text))
  ends_so days wanted (Ok expr) h = tt
  ends_so days wanted (Err fault.Memory) h = tt
  ends_so days wanted (Err (fault.Syntax at)) h = accepted_ends days wanted at h
  ends_so days wanted (Err (fault.TooDeep at)) h = tt
  ends_so days wanted (Err (fault.Sort at)) h = tt
