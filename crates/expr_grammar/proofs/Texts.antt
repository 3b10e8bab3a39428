-- Each text of the grammar is read, and as the tree of its form.
use Rattle.std.proofs.Common.{◌≡◌, ℕ, suc, ◌+◌, ◌-◌, ◌≤◌, Bool, true, false, cond, List, [], ◌∷◌, ◌++◌, length, drop, Option, None, Ok, Err, refl, sym, ap}
use Rattle.std.proofs.Common.{subst, ◌∙◌, inl, arith}
use Rattle.std.specs.Prelude.{nat_eq}
use Rattle.expr_lang.specs.declared.tree.Place.{Place}
use Rattle.expr_lang.specs.declared.words.Symbol.TheVariants as symbol
use Rattle.expr_lang.specs.declared.words.ItemForm.{ItemForm}
use Rattle.expr_lang.specs.declared.reading.Spot.{Spot}
use Rattle.expr_lang.specs.declared.reading.Node.TheVariants as node
use Rattle.expr_lang.specs.declared.reading.Frame.{Frame}
use Rattle.expr_lang.specs.declared.reading.Expect.TheVariants as expect
use Rattle.expr_lang.specs.declared.reading.Reader.{Reader}
use Rattle.expr_lang.specs.Reading.{enclosing_of, nodes_reduced, spot_of}
use Rattle.expr_lang.specs.Shape.{Shape}
use Rattle.expr_lang.specs.Items.{occurrences}
use Rattle.expr_lang.specs.Survey.{survey_of, topmost}
use Rattle.expr_grammar.specs.Grammar.{Form, Number, Item, Bracket, Power, Sign, Chain, Arguments, If, Condition, DaysBetween, Apply, IsBlank, IsForm}
use Rattle.expr_grammar.specs.Grammar.{spelled}
use Rattle.expr_grammar.proofs.Stored.{tree_of}
use Rattle.expr_grammar.proofs.Steps.{At, Goes}
use Rattle.expr_grammar.proofs.Moves.{rd}
use Rattle.expr_grammar.proofs.Completed.{Told, told_of, Tells, Follows, Evals, evals_item}
use Rattle.expr_grammar.proofs.Productions.{whole}
use Rattle.expr_lang.specs.declared.reading.Nodes.{Nodes}
use Rattle.expr_lang.specs.Build.{built, top_shape}
use Rattle.std.specs.Prelude.{is_none}
use Rattle.expr_grammar.proofs.Words.{drop_front}
use Rattle.expr_grammar.proofs.Completed.{Told, told_of, Tells, blank_calm}
use Rattle.expr_lang.specs.Reading.{blank_count, token_from, go_on, ended, read_rest, read_text, most_words, new_reader, is_count_of}
use Rattle.expr_grammar.specs.Grammar.{IsWhole, IsTextOf}
use Rattle.expr_grammar.proofs.Every.{reads}
use Rattle.expr_grammar.proofs.Words.{blank_is}
use Rattle.expr_grammar.proofs.Steps.{read_is, step}
use Rattle.expr_grammar.proofs.Moves.{item_token, all_may}
use Rattle.expr_lang.specs.declared.reading.Token.TheVariants as token

nothing_behind : (xs : List ℕ) → xs ++ [] ≡ xs
nothing_behind [] = refl
nothing_behind (x ∷ xs) = ap (λ (l : List ℕ). x ∷ l) (nothing_behind xs)

-- after the last word
pub read_end : (p : Place) (n : ℕ) (r : Reader) (at : ℕ) (b : List ℕ) → IsBlank b → read_rest p (suc n) r at b ≡ ended r (at + length b)
read_end p n r at b blank =
    let count : blank_count b ≡ length b = ap blank_count (sym (nothing_behind b)) ∙ blank_is b [] blank refl in
    let none : drop (blank_count b) b ≡ [] = ap (λ (k : ℕ). drop k b) count ∙ ap (drop (length b)) (sym (nothing_behind b)) ∙ drop_front b [] in
    read_is p n r at b
    ∙ ap (λ (l : List ℕ). cond (nat_eq (length l) 0) (ended r (at + blank_count b))
    (go_on (read_rest p n) r (at + blank_count b) l (token_from r.expect r.frames r.quoted p l))) none
    ∙ ap (λ (k : ℕ). ended r (at + k)) count

words_limit : most_words ≡ 4097
unfolding most_words
words_limit = refl

pub no_follow : (b : List ℕ) → IsBlank b → Follows b
no_follow [] h = (refl, refl)
no_follow (x ∷ xs) h = let k = blank_calm x h.0 in (k.0, k.1)

-- nodes that are a tree's
pub record ReadAs (p : Place) (days : List (List ℕ)) (text : List ℕ) (shape : Shape) : Type 0 where
  pub nodes : Nodes
  pub read : read_text p text ≡ Ok nodes
  pub tree : built text days nodes.nodes ≡ shape
  pub evals : Evals text days nodes.nodes shape

-- and the occurrences of its items
pub record ReadTold (p : Place) (days : List (List ℕ)) (text : List ℕ) (told : Told) : Type 0 where
  pub whole : ReadAs p days text told.tree
  pub lists : occurrences text days whole.nodes.nodes ≡ told.items
  pub known : survey_of text days whole.nodes.nodes ≡ told.known

survey_is : (text : List ℕ) (days : List (List ℕ)) (nodes : List Spot) (told : Told) → Tells text days nodes told → survey_of text days nodes ≡ told.known
unfolding survey_of
survey_is text days nodes told h = ap topmost (h.surveys.is [])

module _ (p : Place) (days : List (List ℕ)) (text : List ℕ) (short : length text ≤ 4096) where
  built_is : (own : List Spot) (shape : Shape) → Evals text days own shape → built text days own ≡ shape
  unfolding built
  built_is own shape h = ap top_shape (h.is [])

  start_at : At text 0 text
  start_at = record { rest = refl; all = omega arith }

  ends : (to : Reader) (past : ℕ) (blanks : List ℕ) (nodes : Nodes) (told : Told) → IsBlank blanks
      → Goes p text (rd expect.Start [] [] 0 None false) 0 text to past blanks → ended to (past + length blanks) ≡ Ok nodes → Tells text days nodes.nodes told
      → ReadTold p days text told
  unfolding read_text
  ends to past blanks nodes told blank goes done tells =
      let fuel : most_words ≡ goes.count + suc (4096 - goes.count) = omega (arith, words_limit, goes.far, goes.stands.all) in
      record {
        whole = record {
          nodes = nodes;
          read = ap (λ (k : ℕ). read_rest p k new_reader 0 text) fuel ∙ goes.goes (suc (4096 - goes.count))
              ∙ read_end p (4096 - goes.count) to past blanks blank ∙ done;
          tree = built_is nodes.nodes told.tree tells.evals;
          evals = tells.evals;
        };
        lists = tells.lists;
        known = survey_is text days nodes.nodes told tells;
      }

  done_operator : (power : Bool) (frames : List Frame) (nodes own : List Spot) (o : ℕ) (c : Option ℕ) (at : ℕ) → enclosing_of frames ≡ None
      → nodes_reduced 1 frames nodes ≡ own → ended (rd (expect.Operator power) frames nodes o c false) at ≡ Ok (record { nodes = own; crowded = c })
  done_operator power frames nodes own o c at outer whole =
      ap (λ (x : Option Frame). cond (is_none x) (Ok (record { nodes = nodes_reduced 1 frames nodes; crowded = c })) (Err at)) outer
      ∙ ap (λ (x : List Spot). Ok (record { nodes = x; crowded = c })) whole

  expression : (F : Form) (blanks : List ℕ) → IsForm p false 1 F → IsBlank blanks → text ≡ spelled F blanks
      → ReadTold p days text (told_of days (length text) F blanks)
  expression F blanks is blank same =
      let one =
      (reads p days text F (inl short)).0 1 expect.Start [] [] 0 None false 0 blanks tt (omega arith) is (λ le. tt) (λ le. refl) (no_follow blanks blank)
      (subst (At text 0) same start_at) in
      ends (rd (expect.Operator one.power) one.frames one.nodes one.opened one.crowded false) one.past blanks
      (record { nodes = one.own; crowded = one.crowded }) (told_of days (length text) F blanks) blank
      (subst (λ (l : List ℕ). Goes p text (rd expect.Start [] [] 0 None false) 0 l
      (rd (expect.Operator one.power) one.frames one.nodes one.opened one.crowded false) one.past blanks) (sym same) one.goes)
      (done_operator one.power one.frames one.nodes one.own one.opened one.crowded (one.past + length blanks) one.after.outer (one.after.whole 1 (omega arith)))
      one.tree

  ended_item : (t : Bool) (s : Spot) (at : ℕ)
      → ended (rd (cond t expect.End (expect.Operator true)) [] (s ∷ []) 0 None false) at ≡ Ok (record { nodes = s ∷ []; crowded = None })
  ended_item true s at = refl
  ended_item false s at = refl

  item : (b : List ℕ) (f : ItemForm) (word blanks : List ℕ) → IsWhole p (Item b f word) → IsBlank blanks → text ≡ spelled (Item b f word) blanks
      → ReadTold p days text (told_of days (length text) (Item b f word) blanks)
  item b f word blanks is blank same =
      let here = subst (At text 0) same start_at in
      let s = spot_of (0 + length b) (node.Item f) in
      let one =
      step p text (rd expect.Start [] [] 0 None false) 0 (token.Word (symbol.Item f)) b word blanks is.0 (
        is.1,
        all_may (symbol.Item f),
      ) is.2 (λ no. absurd cc) here in
      let to = rd (cond (is_count_of (node.Item f)) expect.End (expect.Operator true)) [] (s ∷ []) 0 None false in
      let there : Goes p text (rd expect.Start [] [] 0 None false) 0 (spelled (Item b f word) blanks) to (0 + length b + length word) blanks =
      subst (λ (x : Reader). Goes p text (rd expect.Start [] [] 0 None false) 0 (spelled (Item b f word) blanks) x (0 + length b + length word) blanks)
      (item_token expect.Start (0 + length b) f [] [] 0 None false tt) one in
      ends to (0 + length b + length word) blanks (record { nodes = s ∷ []; crowded = None }) (told_of days (length text) (Item b f word) blanks) blank
      (subst (λ (l : List ℕ). Goes p text (rd expect.Start [] [] 0 None false) 0 l to (0 + length b + length word) blanks) (sym same) there)
      (ended_item (is_count_of (node.Item f)) s (0 + length b + length word + length blanks))
      (evals_item text days 0 b f word blanks is.2 here)

  -- each text of the grammar is read, as the tree of its form, with its items
  pub text_told : (F : Form) (is : IsTextOf p text F) → ReadTold p days text (told_of days (length text) F is.1)
  text_told (Item b f word) is = item b f word is.1 is.0 is.2 is.3
  text_told (Number b digits decimals) is = expression (Number b digits decimals) is.1 is.0 is.2 is.3
  text_told (Bracket b inner d) is = expression (Bracket b inner d) is.1 is.0 is.2 is.3
  text_told (Power atom b d digits) is = expression (Power atom b d digits) is.1 is.0 is.2 is.3
  text_told (Sign b sign operand) is = expression (Sign b sign operand) is.1 is.0 is.2 is.3
  text_told (Chain left b op right) is = expression (Chain left b op right) is.1 is.0 is.2 is.3
  text_told (Arguments first b last) is = expression (Arguments first b last) is.1 is.0 is.2 is.3
  text_told (If b d test f one g other i) is = expression (If b d test f one g other i) is.1 is.0 is.2 is.3
  text_told (Condition b d f test g i one j other l) is = expression (Condition b d f test g i one j other l) is.1 is.0 is.2 is.3
  text_told (DaysBetween b d one f other g) is = expression (DaysBetween b d one f other g) is.1 is.0 is.2 is.3
  text_told (Apply b name d arguments g) is = expression (Apply b name d arguments g) is.1 is.0 is.2 is.3

  pub text_read : (F : Form) → IsTextOf p text F → ReadAs p days text (tree_of days F)
  text_read F is = (text_told F is).whole
