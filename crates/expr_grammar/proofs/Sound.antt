-- What is read is a form of the grammar.
use Rattle.std.proofs.Common.{◌≡◌, ℕ, zero, suc, ◌+◌, Bool, true, false, cond, List, [], ◌∷◌, ◌++◌, length, drop, Option, Result, Ok, Err, refl, sym, ap}
use Rattle.std.proofs.Common.{subst, ◌⊎◌, ◌∙◌, inl, inr, arith}
use Rattle.std.specs.Prelude.{not, nat_eq, nat_le}
use Rattle.std.proofs.lemmas.Bool.Decides.{nat_tests}
use Rattle.expr_lang.specs.declared.tree.Place.{Place}
use Rattle.expr_lang.specs.declared.tree.Place.TheVariants as place
use Rattle.expr_lang.specs.declared.words.Symbol.{Symbol}
use Rattle.expr_lang.specs.declared.words.Symbol.TheVariants as symbol
use Rattle.expr_lang.specs.declared.words.Call.TheVariants as call
use Rattle.expr_lang.specs.declared.words.ItemForm.{ItemForm}
use Rattle.expr_lang.specs.declared.words.ItemForm.TheVariants as form
use Rattle.expr_lang.specs.declared.reading.Spot.{Spot}
use Rattle.expr_lang.specs.declared.reading.Node.TheVariants as node
use Rattle.expr_lang.specs.declared.reading.Frame.{Frame}
use Rattle.expr_lang.specs.declared.reading.Expect.{Expect}
use Rattle.expr_lang.specs.declared.reading.Reader.{Reader}
use Rattle.expr_lang.specs.Reading.{level_of, enclosing_of, compares, nodes_reduced}
use Rattle.expr_lang.specs.Words.{text_of, items_of_place}
use Rattle.expr_grammar.specs.Grammar.{Form, Number, Item, Bracket, Power, Sign, Chain, Arguments, If, Condition, DaysBetween, Apply, IsBlank, IsWord}
use Rattle.expr_grammar.specs.Grammar.{IsAmong, IsForm, spelled}
use Rattle.expr_grammar.specs.Grammar.{IsWhole, IsTextOf}
use Rattle.expr_grammar.proofs.Words.{both}
use Rattle.expr_lang.specs.declared.reading.Token.{Token}
use Rattle.expr_lang.specs.declared.reading.Token.TheVariants as token
use Rattle.expr_lang.specs.Reading.{is_count_of, allowed_after, allowed_for, with_token, takes_number}
use Rattle.expr_lang.specs.Token.{is_allowed_of}
use Rattle.expr_lang.specs.Words.{operands_of, start_of, followers, marks_of, bracket_of, nothing_of}
use Rattle.expr_grammar.proofs.Words.{all_of, among_all, IsRaised}
use Rattle.expr_grammar.proofs.Tokens.{IsLexeme, May}
use Rattle.expr_grammar.proofs.Steps.{IsPlainWord}
use Rattle.expr_grammar.proofs.Completed.{not_true}
use Rattle.expr_grammar.proofs.Moves.{rd, caret_in, among_start, is_operand, no_count}
use Rattle.expr_grammar.proofs.Parts.{Part, InChain, InSign, spelled_parts, frames_of, quoted_of, hole, Fit, weaken, Below, Reduced, reduced, above_same}
use Rattle.expr_grammar.proofs.Parts.{enclosing_same, hole_small}
use Rattle.expr_grammar.proofs.Stages.{as_written, wants_open, wants_minus, wants_bang, wants_call, wants_number, wants_item, wants_count, named_open}
use Rattle.expr_grammar.proofs.Stages.{quoting_quote, raised_number, tested_comma, lone_item, lone_close, plain_close, plain_comma, first_number, first_item}
use Rattle.expr_grammar.proofs.Stages.{next_number, next_item, Stage, Wants, Named, Quoting, WantsItem, PlainFirst, PlainNext, Plain, Lone, Raised, Has}
use Rattle.expr_grammar.proofs.Stages.{Tested, Whole, spelled_stage, expect_of, stage_frames, stage_quoted, Valid, Like, Next, After}
use Rattle.expr_grammar.proofs.Turns.{has_caret, has_operator, has_close, has_comma, has_quote}
use Rattle.expr_grammar.proofs.Words.{blanks_split, drop_front}
use Rattle.expr_grammar.proofs.Tokens.{token_sound}
use Rattle.expr_grammar.proofs.Steps.{read_is, read_none}
use Rattle.std.specs.Prelude.{is_none}
use Rattle.expr_lang.specs.declared.reading.Nodes.{Nodes}
use Rattle.expr_lang.specs.declared.reading.Found.{Found}
use Rattle.expr_lang.specs.Reading.{blank_count, token_from, go_on, ended, may_end_in, read_rest, read_text, most_words, new_reader}

-- ---- which words there are

abbrev operand_word : Symbol → Bool
operand_word symbol.Minus = true
operand_word symbol.Bang = true
operand_word symbol.Open = true
operand_word (symbol.Call name) = true
operand_word (symbol.Item f) = not (is_count_of (node.Item f))
operand_word _ = false

abbrev item_word : Symbol → Bool
item_word (symbol.Item f) = true
item_word _ = false

abbrev follower : Symbol → Bool
follower symbol.Caret = true
follower symbol.Close = true
follower symbol.Comma = true
follower symbol.Quote = true
follower (symbol.Operator op) = nat_le 1 (level_of op)
follower _ = false

abbrev count_word : Symbol → Bool
count_word (symbol.Item f) = is_count_of (node.Item f)
count_word _ = false

all_operands : (p : Place) → all_of operand_word (operands_of p) ≡ true
unfolding operands_of
all_operands place.Aggregate = refl
all_operands place.Program = refl

all_items : (p : Place) → all_of item_word (items_of_place p) ≡ true
unfolding items_of_place
all_items place.Aggregate = refl
all_items place.Program = refl

all_followers : all_of follower followers ≡ true
unfolding followers
all_followers = refl

-- the words of a whole text are those of an operand, and counts
start_cases : (p : Place) (w : Symbol) → IsAmong w (start_of p) → IsAmong w (operands_of p) ⊎ (count_word w ≡ true)
unfolding start_of operands_of
start_cases place.Aggregate w h = inl h
start_cases place.Program w h = split (operands_of place.Program) h
  where
    split : (ws : List Symbol) → IsAmong w (ws ++ (symbol.Item form.EventCount ∷ symbol.Item form.EnrollmentCount ∷ symbol.Item form.EntityCount ∷ []))
        → IsAmong w ws ⊎ (count_word w ≡ true)
    split [] (inl h) = inr (ap count_word h)
    split [] (inr (inl h)) = inr (ap count_word h)
    split [] (inr (inr (inl h))) = inr (ap count_word h)
    split [] (inr (inr (inr h))) = absurd h
    split (v ∷ vs) (inl h) = inl (inl h)
    split (v ∷ vs) (inr h) = elim (split vs h) [ inl g ↦ inl (inr g) | inr g ↦ inr g ]

skip : (pre items : List Symbol) (w : Symbol) → all_of (λ v. not (item_word v)) pre ≡ true → item_word w ≡ true → IsAmong w (pre ++ items) → IsAmong w items
skip [] items w e f h = h
skip (v ∷ vs) items w e f (inl h) =
    (let g = (both (not (item_word v)) (all_of (λ v. not (item_word v)) vs) e).0 in let k : not (item_word w) ≡ true = ap (λ (x : Symbol). not (item_word x)) h
    ∙ g in let l : not true ≡ true = ap not (sym f) ∙ k in absurd cc)
skip (v ∷ vs) items w e f (inr h) = skip vs items w (both (not (item_word v)) (all_of (λ v. not (item_word v)) vs) e).1 f h

among_items : (p : Place) (f : ItemForm) → IsAmong (symbol.Item f) (operands_of p) → IsAmong (symbol.Item f) (items_of_place p)
unfolding operands_of items_of_place
among_items place.Aggregate f h =
    skip (symbol.Minus ∷ symbol.Bang ∷ symbol.Open ∷ symbol.Call call.If ∷ symbol.Call call.IsNull ∷ symbol.Call call.IsNotNull ∷ symbol.Call call.FirstNonNull
    ∷ symbol.Call call.Greatest ∷ symbol.Call call.Least ∷ []) (items_of_place place.Aggregate) (symbol.Item f) refl refl h
among_items place.Program f h =
    skip (symbol.Minus ∷ symbol.Bang ∷ symbol.Open ∷ symbol.Call call.If ∷ symbol.Call call.Greatest ∷ symbol.Call call.Least ∷ symbol.Call call.Condition ∷
    symbol.Call call.DaysBetween ∷ symbol.Call call.HasValue ∷ symbol.Call call.Zing ∷ symbol.Call call.Oizp ∷ []) (items_of_place place.Program)
    (symbol.Item f) refl refl h

marks_cases : (w : Symbol) → IsAmong w marks_of → (w ≡ symbol.Close) ⊎ ((w ≡ symbol.Comma) ⊎ (w ≡ symbol.Quote))
unfolding marks_of
marks_cases w (inl h) = inl h
marks_cases w (inr (inl h)) = inr (inl h)
marks_cases w (inr (inr (inl h))) = inr (inr h)
marks_cases w (inr (inr (inr h))) = absurd h

bracket_is : (w : Symbol) → IsAmong w bracket_of → w ≡ symbol.Open
unfolding bracket_of
bracket_is w (inl h) = h
bracket_is w (inr h) = absurd h

nothing_is : (w : Symbol) → ¬ IsAmong w nothing_of
unfolding nothing_of
nothing_is w h = h

module _ (p : Place) (ns : List Spot) (o : ℕ) (c : Option ℕ) (at : ℕ) (b : List ℕ) (blank : IsBlank b) where
  operand_next : (ps : List Part) (w : Symbol) (lexeme : List ℕ) → Fit p ps → IsAmong w (operands_of p)
      → IsLexeme (token.Word w) lexeme → After p ns o c at b blank (Wants ps) (token.Word w) lexeme
  operand_next ps symbol.Minus lexeme fit among is =
      as_written p ns o c at b blank (Wants ps) symbol.Minus lexeme tt is (wants_minus p ns o c at b blank ps fit)
  operand_next ps symbol.Bang lexeme fit among is =
      as_written p ns o c at b blank (Wants ps) symbol.Bang lexeme tt is (wants_bang p ns o c at b blank ps fit)
  operand_next ps symbol.Open lexeme fit among is =
      as_written p ns o c at b blank (Wants ps) symbol.Open lexeme tt is (wants_open p ns o c at b blank ps fit)
  operand_next ps (symbol.Call name) lexeme fit among is =
      as_written p ns o c at b blank (Wants ps) (symbol.Call name) lexeme tt is (wants_call p ns o c at b blank ps name fit among)
  operand_next ps (symbol.Item f) lexeme fit among is =
      (let items = among_items p f among in wants_item p ns o c at b blank ps f lexeme fit items (no_count p f items) is)
  operand_next ps symbol.Close lexeme fit among is = (let no = among_all operand_word (operands_of p) symbol.Close (all_operands p) among in absurd cc)
  operand_next ps symbol.Comma lexeme fit among is = (let no = among_all operand_word (operands_of p) symbol.Comma (all_operands p) among in absurd cc)
  operand_next ps symbol.Quote lexeme fit among is = (let no = among_all operand_word (operands_of p) symbol.Quote (all_operands p) among in absurd cc)
  operand_next ps symbol.Caret lexeme fit among is = (let no = among_all operand_word (operands_of p) symbol.Caret (all_operands p) among in absurd cc)
  operand_next ps (symbol.Operator op) lexeme fit among is =
      (let no = among_all operand_word (operands_of p) (symbol.Operator op) (all_operands p) among in absurd cc)

  count_next : (w : Symbol) (lexeme : List ℕ) → IsAmong w (start_of p) → count_word w ≡ true → IsLexeme (token.Word w) lexeme
      → After p ns o c at b blank (Wants []) (token.Word w) lexeme
  count_next (symbol.Item f) lexeme among count is = wants_count p ns o c at b blank f lexeme among count is
  count_next w lexeme among count is = absurd cc

  start_next : (w : Symbol) (lexeme : List ℕ) → IsAmong w (start_of p) → IsLexeme (token.Word w) lexeme
      → After p ns o c at b blank (Wants []) (token.Word w) lexeme
  start_next w lexeme among is =
      elim (start_cases p w among) [ inl h ↦ operand_next [] w lexeme tt h is | inr h ↦ count_next w lexeme among h is ]

  -- an item, where only items are words
  item_next : (s : Stage) (w : Symbol) (lexeme : List ℕ) → IsAmong w (items_of_place p) → IsLexeme (token.Word w) lexeme
      → ((f : ItemForm) → IsAmong (symbol.Item f) (items_of_place p) → IsWord (text_of (symbol.Item f)) lexeme
      → After p ns o c at b blank s (token.Word (symbol.Item f)) lexeme) → After p ns o c at b blank s (token.Word w) lexeme
  item_next s (symbol.Item f) lexeme among is next = next f among is
  item_next s symbol.Open lexeme among is next = (let no = among_all item_word (items_of_place p) symbol.Open (all_items p) among in absurd cc)
  item_next s symbol.Close lexeme among is next = (let no = among_all item_word (items_of_place p) symbol.Close (all_items p) among in absurd cc)
  item_next s symbol.Comma lexeme among is next = (let no = among_all item_word (items_of_place p) symbol.Comma (all_items p) among in absurd cc)
  item_next s symbol.Quote lexeme among is next = (let no = among_all item_word (items_of_place p) symbol.Quote (all_items p) among in absurd cc)
  item_next s symbol.Caret lexeme among is next = (let no = among_all item_word (items_of_place p) symbol.Caret (all_items p) among in absurd cc)
  item_next s symbol.Minus lexeme among is next = (let no = among_all item_word (items_of_place p) symbol.Minus (all_items p) among in absurd cc)
  item_next s symbol.Bang lexeme among is next = (let no = among_all item_word (items_of_place p) symbol.Bang (all_items p) among in absurd cc)
  item_next s (symbol.Operator op) lexeme among is next =
      (let no = among_all item_word (items_of_place p) (symbol.Operator op) (all_items p) among in absurd cc)
  item_next s (symbol.Call name) lexeme among is next = (let no = among_all item_word (items_of_place p) (symbol.Call name) (all_items p) among in absurd cc)

  caret_next : (ps : List Part) (F : Form) (power : Bool) → Valid p (Has ps F power) → is_allowed_of (allowed_after (frames_of ps) power) symbol.Caret ≡ true
      → After p ns o c at b blank (Has ps F power) (token.Word symbol.Caret) (text_of symbol.Caret)
  unfolding allowed_after
  caret_next ps F true v allowed = has_caret p ns o c at b blank ps F v
  caret_next ps F false v allowed = (let no = sym (caret_in (enclosing_of (frames_of ps)) false (not (compares (frames_of ps)))) ∙ allowed in absurd cc)

  follow_next : (ps : List Part) (F : Form) (power : Bool) (w : Symbol) (lexeme : List ℕ) → Valid p (Has ps F power) → IsAmong w followers
      → is_allowed_of (allowed_after (frames_of ps) power) w ≡ true → IsLexeme (token.Word w) lexeme
      → After p ns o c at b blank (Has ps F power) (token.Word w) lexeme
  follow_next ps F power symbol.Caret lexeme v among allowed is =
      as_written p ns o c at b blank (Has ps F power) symbol.Caret lexeme tt is (caret_next ps F power v allowed)
  follow_next ps F power symbol.Close lexeme v among allowed is =
      as_written p ns o c at b blank (Has ps F power) symbol.Close lexeme tt is (has_close p ns o c at b blank ps F power v allowed)
  follow_next ps F power symbol.Comma lexeme v among allowed is =
      as_written p ns o c at b blank (Has ps F power) symbol.Comma lexeme tt is (has_comma p ns o c at b blank ps F power v allowed)
  follow_next ps F power symbol.Quote lexeme v among allowed is =
      as_written p ns o c at b blank (Has ps F power) symbol.Quote lexeme tt is (has_quote p ns o c at b blank ps F power v allowed)
  follow_next ps F power (symbol.Operator op) lexeme v among allowed is =
      let e = among_all follower followers (symbol.Operator op) all_followers among in
      as_written p ns o c at b blank (Has ps F power) (symbol.Operator op) lexeme tt is
      (has_operator p ns o c at b blank ps F power op v (grind (arith, nat_tests)) allowed)
  follow_next ps F power symbol.Open lexeme v among allowed is = (let no = among_all follower followers symbol.Open all_followers among in absurd cc)
  follow_next ps F power symbol.Minus lexeme v among allowed is = (let no = among_all follower followers symbol.Minus all_followers among in absurd cc)
  follow_next ps F power symbol.Bang lexeme v among allowed is = (let no = among_all follower followers symbol.Bang all_followers among in absurd cc)
  follow_next ps F power (symbol.Call name) lexeme v among allowed is =
      (let no = among_all follower followers (symbol.Call name) all_followers among in absurd cc)
  follow_next ps F power (symbol.Item f) lexeme v among allowed is = (let no = among_all follower followers (symbol.Item f) all_followers among in absurd cc)

  -- one of the marks that are allowed
  mark_next : (s : Stage) (w : Symbol) (lexeme : List ℕ) → IsAmong w marks_of
      → is_allowed_of (allowed_for (expect_of s) (stage_frames s) (stage_quoted s)) w ≡ true → IsLexeme (token.Word w) lexeme
      → (is_allowed_of (allowed_for (expect_of s) (stage_frames s) (stage_quoted s)) symbol.Close ≡ true
      → After p ns o c at b blank s (token.Word symbol.Close) (text_of symbol.Close))
      → (is_allowed_of (allowed_for (expect_of s) (stage_frames s) (stage_quoted s)) symbol.Comma ≡ true
      → After p ns o c at b blank s (token.Word symbol.Comma) (text_of symbol.Comma))
      → (is_allowed_of (allowed_for (expect_of s) (stage_frames s) (stage_quoted s)) symbol.Quote ≡ true
      → After p ns o c at b blank s (token.Word symbol.Quote) (text_of symbol.Quote))
      → After p ns o c at b blank s (token.Word w) lexeme
  mark_next s w lexeme among allowed is close comma quote =
      elim (marks_cases w among) [
        | inl e ↦ at_word symbol.Close e tt close
        | inr h ↦ elim h [ inl e ↦ at_word symbol.Comma e tt comma | inr e ↦ at_word symbol.Quote e tt quote ]
      ]
    where
      at_word : (x : Symbol) → w ≡ x → IsPlainWord x
          → (is_allowed_of (allowed_for (expect_of s) (stage_frames s) (stage_quoted s)) x ≡ true → After p ns o c at b blank s (token.Word x) (text_of x))
          → After p ns o c at b blank s (token.Word w) lexeme
      at_word x e plain next =
          subst (λ (y : Symbol). After p ns o c at b blank s (token.Word y) lexeme) (sym e)
          (as_written p ns o c at b blank s x lexeme plain (subst (λ (y : Symbol). IsWord (text_of y) lexeme) e is)
          (next (subst (λ (y : Symbol). is_allowed_of (allowed_for (expect_of s) (stage_frames s) (stage_quoted s)) y ≡ true) e allowed)))

  word_next : (s : Stage) (w : Symbol) (lexeme : List ℕ) → Valid p s → May (expect_of s) (stage_frames s) (stage_quoted s) p (token.Word w)
      → IsLexeme (token.Word w) lexeme → After p ns o c at b blank s (token.Word w) lexeme
  word_next (Wants []) w lexeme v may is = start_next w lexeme may.0 is
  word_next (Wants (x ∷ ps)) w lexeme v may is = operand_next (x ∷ ps) w lexeme v may.0 is
  word_next (Named ps d name k) w lexeme v may is =
      let e = bracket_is w may.0 in
      subst (λ (y : Symbol). After p ns o c at b blank (Named ps d name k) (token.Word y) lexeme) (sym e)
      (as_written p ns o c at b blank (Named ps d name k) symbol.Open lexeme tt (subst (λ (y : Symbol). IsWord (text_of y) lexeme) e is)
      (named_open p ns o c at b blank ps d name k v))
  word_next (Quoting ps d e k) w lexeme v may is =
      mark_next (Quoting ps d e k) w lexeme may.0 may.1 is (λ no. absurd cc) (λ no. absurd cc) (λ yes.
      quoting_quote p ns o c at b blank ps d e k v (not_true (quoted_of ps) yes))
  word_next (WantsItem ps d name e k) w lexeme v may is =
      item_next (WantsItem ps d name e k) w lexeme may.0 is (λ f among is. lone_item p ns o c at b blank ps d name e k f lexeme v among is)
  word_next (PlainFirst ps d e k) w lexeme v may is =
      item_next (PlainFirst ps d e k) w lexeme may.0 is (λ f among is. first_item p ns o c at b blank ps d e k f lexeme v among is)
  word_next (PlainNext ps d e k first f m) w lexeme v may is =
      item_next (PlainNext ps d e k first f m) w lexeme may.0 is (λ i among is. next_item p ns o c at b blank ps d e k first f m i lexeme v among is)
  word_next (Plain ps d e k F n) w lexeme v may is =
      mark_next (Plain ps d e k F n) w lexeme may.0 may.1 is (λ yes. plain_close p ns o c at b blank ps d e k F n v) (λ yes.
      plain_comma p ns o c at b blank ps d e k F n v) (λ no. absurd cc)
  word_next (Lone ps d name e k F) w lexeme v may is =
      mark_next (Lone ps d name e k F) w lexeme may.0 may.1 is (λ yes. lone_close p ns o c at b blank ps d name e k F v) (λ no. absurd cc) (λ no. absurd cc)
  word_next (Raised ps F d k) w lexeme v may is = absurd (nothing_is w may.0)
  word_next (Has ps F power) w lexeme v may is = follow_next ps F power w lexeme v may.0 may.1 is
  word_next (Tested ps d e f test g k) w lexeme v may is =
      mark_next (Tested ps d e f test g k) w lexeme may.0 may.1 is (λ no. absurd cc) (λ yes. tested_comma p ns o c at b blank ps d e f test g k v) (λ no.
      absurd cc)
  word_next (Whole F) w lexeme v may is = absurd (nothing_is w may.0)

  number_next : (s : Stage) (n : ℕ) (lexeme : List ℕ) → Valid p s → takes_number (expect_of s) ≡ true → IsLexeme (token.Number n) lexeme
      → After p ns o c at b blank s (token.Number n) lexeme
  number_next (Wants ps) n lexeme v may is = wants_number p ns o c at b blank ps n lexeme v is
  number_next (PlainFirst ps d e k) n lexeme v may is = first_number p ns o c at b blank ps d e k n lexeme v is
  number_next (PlainNext ps d e k first f m) n lexeme v may is = next_number p ns o c at b blank ps d e k first f m n lexeme v is
  number_next s n lexeme v may is = absurd cc

  exponent_next : (s : Stage) (n : ℕ) (lexeme : List ℕ) → Valid p s → IsRaised (expect_of s) → IsLexeme (token.Exponent n) lexeme
      → After p ns o c at b blank s (token.Exponent n) lexeme
  exponent_next (Raised ps F d k) n lexeme v may is = raised_number p ns o c at b blank ps F d k n lexeme v is
  exponent_next (Wants []) n lexeme v may is = absurd may
  exponent_next (Wants (x ∷ ps)) n lexeme v may is = absurd may
  exponent_next s n lexeme v may is = absurd may

  pub token_next : (s : Stage) (t : Token) (lexeme : List ℕ) → Valid p s → May (expect_of s) (stage_frames s) (stage_quoted s) p t → IsLexeme t lexeme
      → After p ns o c at b blank s t lexeme
  token_next s (token.Word w) lexeme v may is = word_next s w lexeme v may is
  token_next s (token.Number n) lexeme v may is = number_next s n lexeme v may.0 is
  token_next s (token.Exponent n) lexeme v may is = exponent_next s n lexeme v may is

-- ---- a text

length_none : (l : List ℕ) → nat_eq (length l) 0 ≡ true → l ≡ []
length_none [] e = refl
length_none (x ∷ xs) e = let no : nat_eq (length (x ∷ xs)) 0 ≡ false = grind (arith, nat_tests) in absurd cc

nothing_behind : (xs : List ℕ) → xs ++ [] ≡ xs
nothing_behind [] = refl
nothing_behind (x ∷ xs) = ap (λ (l : List ℕ). x ∷ l) (nothing_behind xs)

whole_is : (p : Place) (F : Form) → IsForm p false 1 F → IsWhole p F
whole_is p (Item b f word) h = (h.0, among_start p (symbol.Item f) (is_operand p (symbol.Item f) h.1), h.2)
whole_is p (Number b digits decimals) h = h
whole_is p (Bracket b inner c) h = h
whole_is p (Power atom b c digits) h = h
whole_is p (Sign b sign operand) h = h
whole_is p (Chain left b op right) h = h
whole_is p (Arguments first b last) h = h
whole_is p (If b c test d one e other f) h = h
whole_is p (Condition b c d test e f one g other i) h = h
whole_is p (DaysBetween b c one d other e) h = h
whole_is p (Apply b name c arguments d) h = h

module _ (p : Place) (text : List ℕ) where
  abbrev IsText : Type 0
  IsText = (F : Form) × IsTextOf p text F

  no_outer : (parts : List Part) (F : Form) (blanks : List ℕ) → Fit p parts → IsForm p (quoted_of parts) 1 F → Below 1 parts
      → is_none (enclosing_of (frames_of parts)) ≡ true → IsBlank blanks → text ≡ spelled_parts parts (spelled F blanks) → IsText
  no_outer [] F blanks fit is low e blank same = (F, (whole_is p F is, blanks, blank, same))
  no_outer (InChain left d op k ∷ ps) F blanks fit is low e blank same = absurd (omega (arith, fit.0, low))
  no_outer (InSign d sign k ∷ ps) F blanks fit is low e blank same = absurd low
  no_outer (x ∷ ps) F blanks fit is low e blank same = absurd cc

  -- where the reader may end
  may_end : (s : Stage) (blanks : List ℕ) → Valid p s → may_end_in (expect_of s) (stage_frames s) ≡ true → IsBlank blanks → text ≡ spelled_stage s blanks
      → IsText
  may_end (Whole F) blanks v e blank same = (F, (v, blanks, blank, same))
  may_end (Has ps F power) blanks v e blank same =
      go (reduced p 1 1 ps F (omega arith) (omega arith) (omega arith) v.0 (above_same 1 ps) (weaken p (quoted_of ps) 7 1 F (omega arith) v.1)
      (weaken p (quoted_of ps) 7 (hole ps) F (omega (arith, hole_small p ps v.0)) v.1))
    where
      go : Reduced p 1 1 ps F → IsText
      go r =
          no_outer r.parts r.form blanks r.fit r.is r.low (ap (λ (l : List Frame). is_none (enclosing_of l)) (sym r.frames)
          ∙ ap is_none (enclosing_same 1 (frames_of ps)) ∙ e) blank (same ∙ r.spell blanks)
  may_end (Wants []) blanks v e blank same = absurd cc
  may_end (Wants (x ∷ ps)) blanks v e blank same = absurd cc
  may_end s blanks v e blank same = absurd cc

  ended_ok : (r : Reader) (at : ℕ) (nodes : Nodes) → ended r at ≡ Ok nodes → may_end_in r.expect r.frames ≡ true
  ended_ok r at nodes e =
      (elim (may_end_in r.expect r.frames) as (λ t. cond t (Ok (record { nodes = nodes_reduced 1 r.frames r.nodes; crowded = r.crowded })) (Err at) ≡ Ok nodes
      → t ≡ true) [ true ↦ λ f. refl | false ↦ λ f. absurd cc ]) e

  ends_so : (s : Stage) (r : Reader) (at : ℕ) (blanks : List ℕ) (nodes : Nodes) → Like s r → Valid p s → IsBlank blanks → text ≡ spelled_stage s blanks
      → ended r at ≡ Ok nodes → IsText
  ends_so s r at blanks nodes like v blank same e =
      may_end s blanks v (ap (λ (x : Expect). may_end_in x (stage_frames s)) (sym like.expect) ∙ ap (may_end_in r.expect) (sym like.frames)
      ∙ ended_ok r at nodes e) blank same

  same_reader : (s : Stage) (r : Reader) → Like s r → r ≡ rd (expect_of s) (stage_frames s) r.nodes r.opened r.crowded (stage_quoted s)
  same_reader s r like =
      ap (λ (x : Expect). rd x r.frames r.nodes r.opened r.crowded r.quoted) like.expect
      ∙ ap (λ (x : List Frame). rd (expect_of s) x r.nodes r.opened r.crowded r.quoted) like.frames
      ∙ ap (λ (x : Bool). rd (expect_of s) (stage_frames s) r.nodes r.opened r.crowded x) like.quoted

  next_of : (s : Stage) (r : Reader) (at : ℕ) (b : List ℕ) (t : Token) (lexeme : List ℕ) → Like s r → Valid p s → IsBlank b → May r.expect r.frames r.quoted p t
      → IsLexeme t lexeme → Next p s (with_token r at t) b lexeme
  next_of s r at b t lexeme like v blank may is =
      let e = same_reader s r like in
      let may' : May (expect_of s) (stage_frames s) (stage_quoted s) p t = subst (λ (x : Reader). May x.expect x.frames x.quoted p t) e may in
      subst (λ (x : Reader). Next p s (with_token x at t) b lexeme) (sym e) (token_next p r.nodes r.opened r.crowded at b blank s t lexeme v may' is)

  -- the reader goes on after a token, and not only for so many
  abbrev Sound : ℕ → Type 0
  Sound n = (s : Stage) (r : Reader) (at : ℕ) (bytes : List ℕ) (nodes : Nodes) → Like s r → Valid p s → text ≡ spelled_stage s bytes
      → read_rest p n r at bytes ≡ Ok nodes → IsText

  go_sound : (n : ℕ) → Sound n → (s : Stage) (r : Reader) (at : ℕ) (b rest : List ℕ) (nodes : Nodes) (f : Result Found ℕ) → Like s r → Valid p s → IsBlank b
      → text ≡ spelled_stage s (b ++ rest) → token_from r.expect r.frames r.quoted p rest ≡ f → go_on (read_rest p n) r at rest f ≡ Ok nodes → IsText
  go_sound n ih s r at b rest nodes (Err k) like v blank same e done = absurd cc
  go_sound n ih s r at b rest nodes (Ok f) like v blank same e done =
      let t = token_sound r.expect r.frames r.quoted p rest f e in
      let x = next_of s r at b f.token t.0 like v blank t.5 t.3 in
      let beyond : drop f.len rest ≡ t.1 = ap (λ (k : ℕ). drop k rest) t.4 ∙ ap (drop (length t.0)) t.2 ∙ drop_front t.0 t.1 in
      ih x.stage (with_token r at f.token) (at + f.len) t.1 nodes x.like x.valid (same ∙ ap (λ (l : List ℕ). spelled_stage s (b ++ l)) t.2 ∙ x.spell t.1)
      (ap (read_rest p n (with_token r at f.token) (at + f.len)) (sym beyond) ∙ done)

  sound : (n : ℕ) → Sound n
  sound zero s r at bytes nodes like v same e = (let no = sym (read_none p r at bytes) ∙ e in absurd cc)
  sound (suc n) s r at bytes nodes like v same e =
      let b = blanks_split bytes in
      let rest : drop (blank_count bytes) bytes ≡ b.1 = ap (λ (k : ℕ). drop k bytes) b.4 ∙ ap (drop (length b.0)) b.2 ∙ drop_front b.0 b.1 in
      let same' : text ≡ spelled_stage s (b.0 ++ b.1) = same ∙ ap (spelled_stage s) b.2 in
      let read : cond (nat_eq (length b.1) 0) (ended r (at + blank_count bytes))
      (go_on (read_rest p n) r (at + blank_count bytes) b.1 (token_from r.expect r.frames r.quoted p b.1)) ≡ Ok nodes =
      ap (λ (l : List ℕ). cond (nat_eq (length l) 0) (ended r (at + blank_count bytes))
      (go_on (read_rest p n) r (at + blank_count bytes) l (token_from r.expect r.frames r.quoted p l))) (sym rest) ∙ sym (read_is p n r at bytes) ∙ e in
      (elim (nat_eq (length b.1) 0) as (λ t. nat_eq (length b.1) 0 ≡ t
      → cond t (ended r (at + blank_count bytes)) (go_on (read_rest p n) r (at + blank_count bytes) b.1 (token_from r.expect r.frames r.quoted p b.1))
      ≡ Ok nodes → IsText) [
        | true ↦ λ f g. ends_so s r (at + blank_count bytes) b.0 nodes like v b.3 (same' ∙ ap (λ (l : List ℕ). spelled_stage s (b.0 ++ l)) (length_none b.1 f)
            ∙ ap (spelled_stage s) (nothing_behind b.0)) g
        | false ↦ λ f g. go_sound n (sound n) s r (at + blank_count bytes) b.0 b.1 nodes (token_from r.expect r.frames r.quoted p b.1) like v b.3 same' refl g
      ]) refl read

  -- a text that is read is of the grammar
  pub text_sound : (nodes : Nodes) → read_text p text ≡ Ok nodes → (F : Form) × IsTextOf p text F
  unfolding read_text
  text_sound nodes e = sound most_words (Wants []) new_reader 0 text nodes (record { expect = refl; frames = refl; quoted = refl }) tt refl e
