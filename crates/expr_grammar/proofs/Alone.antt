-- The reader in a quoted text takes the same steps as on the bytes after its opening quote alone, up to the next quote.
use Rattle.std.proofs.Common.{◌≡◌, ℕ, suc, Bool, true, false, cond, List, [], ◌∷◌, ◌++◌, length, Option, Some, None}
use Rattle.std.proofs.Common.{refl, sym, ap, subst, ◌⊎◌, ◌∙◌, inl, inr, arith}
use Rattle.std.specs.Prelude.{◌&&◌, ◌||◌, not, nat_eq, nat_lt, nat_le, slice_index}
use Rattle.std.specs.Char.{is_ascii_digit}
use Rattle.std.proofs.lemmas.Bool.Decides.{nat_tests}
use Rattle.expr_lang.specs.declared.tree.Place.{Place}
use Rattle.expr_lang.specs.declared.tree.Place.TheVariants as place
use Rattle.expr_lang.specs.declared.words.Symbol.{Symbol}
use Rattle.expr_lang.specs.declared.words.Symbol.TheVariants as symbol
use Rattle.expr_lang.specs.declared.words.Call.{Call}
use Rattle.expr_lang.specs.declared.words.Call.TheVariants as call
use Rattle.expr_lang.specs.declared.token.Allowed.{Allowed}
use Rattle.expr_lang.specs.declared.token.Front.{Front}
use Rattle.expr_lang.specs.declared.reading.Spot.{Spot}
use Rattle.expr_lang.specs.declared.reading.Node.{Node}
use Rattle.expr_lang.specs.declared.reading.Node.TheVariants as node
use Rattle.expr_lang.specs.declared.reading.Frame.{Frame}
use Rattle.expr_lang.specs.declared.reading.Frame.TheVariants as frame
use Rattle.expr_lang.specs.declared.reading.CallFrame.{CallFrame}
use Rattle.expr_lang.specs.declared.reading.Expect.{Expect}
use Rattle.expr_lang.specs.declared.reading.Expect.TheVariants as expect
use Rattle.expr_lang.specs.declared.reading.Token.{Token}
use Rattle.expr_lang.specs.declared.reading.Token.TheVariants as token
use Rattle.expr_lang.specs.declared.reading.Reader.{Reader}
use Rattle.expr_lang.specs.Reading.{enclosing_of, compares, allowed_in, allowed_after, allowed_for, words_for, takes_number, number_found, word_found}
use Rattle.expr_lang.specs.Reading.{token_from, with_token, with_word, with_leaf, with_sign, with_operator, with_open, with_call, with_comma, with_close}
use Rattle.expr_lang.specs.Reading.{with_exponent, frames_reduced, node_level, level_of, after_leaf_of, is_count_of, first_argument, later_argument}
use Rattle.expr_lang.specs.Reading.{counted_of, comma_in, nodes_reduced}
use Rattle.expr_lang.specs.Stack.{rest_of}
use Rattle.expr_lang.specs.Token.{is_allowed_of, is_comparison_of, fits_of, front_of, better_of, longest_from, no_front, longest_of, number_of}
use Rattle.expr_lang.specs.Words.{text_of, operands_of, start_of, items_of_place, bracket_of, nothing_of}
use Rattle.expr_grammar.specs.Grammar.{IsAmong}
use Rattle.expr_grammar.proofs.Words.{first_is, all_of, among_all}
use Rattle.expr_grammar.proofs.Tokens.{May}
use Rattle.expr_grammar.proofs.Moves.{rd}

-- ---- the next token, where it isn't a quote

-- which words are allowed, but for the quote
record Alike (a b : Allowed) : Type 0 where
  caret : a.caret ≡ b.caret
  close : a.close ≡ b.close
  comma : a.comma ≡ b.comma
  comparison : a.comparison ≡ b.comparison

alike_allowed : (a b : Allowed) (w : Symbol) → Alike a b → (w ≡ symbol.Quote) ⊎ (is_allowed_of a w ≡ is_allowed_of b w)
alike_allowed a b symbol.Caret h = inr h.caret
alike_allowed a b symbol.Close h = inr h.close
alike_allowed a b symbol.Comma h = inr h.comma
alike_allowed a b symbol.Quote h = inl refl
alike_allowed a b symbol.Open h = inr refl
alike_allowed a b symbol.Minus h = inr refl
alike_allowed a b symbol.Bang h = inr refl
alike_allowed a b (symbol.Operator op) h = inr (ap (λ (x : Bool). x || not (is_comparison_of op)) h.comparison)
alike_allowed a b (symbol.Call c) h = inr refl
alike_allowed a b (symbol.Item f) h = inr refl

abbrev pub is_mark : ℕ → Bool
is_mark b = nat_eq b 39

quote_front : (bytes : List ℕ) → first_is is_mark bytes ≡ false → front_of (text_of symbol.Quote) bytes ≡ 0
unfolding text_of
quote_front [] e = refl
quote_front (b ∷ bs) e = let no : fits_of 39 b ≡ false = grind (arith, nat_tests) in ap (λ (t : Bool). cond t (suc (front_of [] bs)) 0) no

not_less : (n : ℕ) → nat_lt n 0 ≡ false
not_less n = grind (arith, nat_tests)

and_false : (b : Bool) → b && false ≡ false
and_false true = refl
and_false false = refl

better_none : (best : Front) (bytes : List ℕ) (n : ℕ) → n ≡ 0
    → (nat_lt best.len n || (nat_eq best.len n && nat_eq n (length (text_of symbol.Quote)))) ≡ false
unfolding text_of
better_none best bytes n e =
    ap (λ (k : ℕ). nat_lt best.len k || (nat_eq best.len k && nat_eq k 1)) e
    ∙ ap (λ (t : Bool). t || (nat_eq best.len 0 && false)) (not_less best.len) ∙ and_false (nat_eq best.len 0)

quote_passed : (x : Bool) (best : Front) (bytes : List ℕ) → first_is is_mark bytes ≡ false → cond x (better_of best symbol.Quote bytes) best ≡ best
quote_passed true best bytes e = rw (better_none best bytes (front_of (text_of symbol.Quote) bytes) (quote_front bytes e)) refl
quote_passed false best bytes e = refl

quoted_alike : (a b : Allowed) (v : Symbol) (ws : List Symbol) (best : Front) (bytes : List ℕ) → first_is is_mark bytes ≡ false → v ≡ symbol.Quote
    → longest_from best a ws bytes ≡ longest_from best b ws bytes → longest_from best a (v ∷ ws) bytes ≡ longest_from best b (v ∷ ws) bytes
quoted_alike a b v ws best bytes e q h =
    ap (λ (x : Symbol). longest_from (cond (is_allowed_of a x) (better_of best x bytes) best) a ws bytes) q
    ∙ ap (λ (f : Front). longest_from f a ws bytes) (quote_passed a.quote best bytes e)
    ∙ h
    ∙ sym (ap (λ (f : Front). longest_from f b ws bytes) (quote_passed b.quote best bytes e))
    ∙ sym (ap (λ (x : Symbol). longest_from (cond (is_allowed_of b x) (better_of best x bytes) best) b ws bytes) q)

longest_alike : (a b : Allowed) (ws : List Symbol) (best : Front) (bytes : List ℕ) → Alike a b → first_is is_mark bytes ≡ false
    → longest_from best a ws bytes ≡ longest_from best b ws bytes
longest_alike a b [] best bytes h e = refl
longest_alike a b (w ∷ ws) best bytes h e =
    elim (alike_allowed a b w h) [
      | inl q ↦ quoted_alike a b w ws best bytes e q (longest_alike a b ws best bytes h e)
      | inr same ↦ ap (λ (t : Bool). longest_from (cond t (better_of best w bytes) best) a ws bytes) same
          ∙ longest_alike a b ws (cond (is_allowed_of b w) (better_of best w bytes) best) bytes h e
    ]

-- ---- frames above a quote

module _ (fs : List Frame) where
  abbrev pub above : List Frame → List Frame
  above F = F ++ (frame.Quote ∷ fs)

  compares_above : (F : List Frame) → compares (above F) ≡ compares F
  compares_above [] = refl
  compares_above (frame.Pending spot ∷ F) = ap (λ (x : Bool). nat_eq (node_level spot.node) 3 || x) (compares_above F)
  compares_above (frame.Bracket ∷ F) = refl
  compares_above (frame.Quote ∷ F) = refl
  compares_above (frame.Call c ∷ F) = refl

  abbrev Encloses : Option Frame → Option Frame → Type 0
  Encloses x y = (x ≡ y) ⊎ ((x ≡ Some frame.Quote) × (y ≡ None))

  enclosing_above : (F : List Frame) → Encloses (enclosing_of (above F)) (enclosing_of F)
  enclosing_above [] = inr (refl, refl)
  enclosing_above (frame.Pending spot ∷ F) = enclosing_above F
  enclosing_above (frame.Bracket ∷ F) = inl refl
  enclosing_above (frame.Quote ∷ F) = inl refl
  enclosing_above (frame.Call c ∷ F) = inl refl

  reduced_above : (k : ℕ) (F : List Frame) → frames_reduced k (above F) ≡ above (frames_reduced k F)
  reduced_above k [] = refl
  reduced_above k (frame.Pending spot ∷ F) =
      elim (nat_le k (node_level spot.node)) as (λ t.
      cond t (frames_reduced k (above F)) (frame.Pending spot ∷ above F) ≡ above (cond t (frames_reduced k F) (frame.Pending spot ∷ F)))
      [ true ↦ reduced_above k F | false ↦ refl ]
  reduced_above k (frame.Bracket ∷ F) = refl
  reduced_above k (frame.Quote ∷ F) = refl
  reduced_above k (frame.Call c ∷ F) = refl

  alike_same : (a : Allowed) → Alike a a
  alike_same a = record { caret = refl; close = refl; comma = refl; comparison = refl }

  alike_in : (x y : Option Frame) (c s t : Bool) → Encloses x y → s ≡ t → Alike (allowed_in x c (not s)) (allowed_in y c (not t))
  alike_in x y c s t (inl e) f =
      subst (λ (z : Option Frame). Alike (allowed_in x c (not s)) (allowed_in z c (not t))) e
      (subst (λ (z : Bool). Alike (allowed_in x c (not s)) (allowed_in x c (not z))) f (alike_same (allowed_in x c (not s))))
  alike_in x y c s t (inr e) f =
      subst (λ (z : Option Frame). Alike (allowed_in z c (not s)) (allowed_in y c (not t))) (sym e.0)
      (subst (λ (z : Option Frame). Alike (allowed_in (Some frame.Quote) c (not s)) (allowed_in z c (not t))) (sym e.1)
      (record { caret = refl; close = refl; comma = refl; comparison = ap not f }))

  alike_for : (e : Expect) (F : List Frame) → Alike (allowed_for e (above F) true) (allowed_for e F false)
  unfolding allowed_after
  alike_for (expect.Operator c) F =
      alike_in (enclosing_of (above F)) (enclosing_of F) c (compares (above F)) (compares F) (enclosing_above F) (compares_above F)
  alike_for expect.Quote F = record { caret = refl; close = refl; comma = refl; comparison = refl }
  alike_for e F = record { caret = refl; close = refl; comma = refl; comparison = refl }

  pub token_alike : (e : Expect) (F : List Frame) (p : Place) (bytes : List ℕ) → first_is is_mark bytes ≡ false
      → token_from e (above F) true p bytes ≡ token_from e F false p bytes
  unfolding token_from longest_of
  token_alike (expect.Exponent at) F p bytes h = refl
  token_alike e F p bytes h =
      ap (λ (f : Front). cond (takes_number e && is_ascii_digit (slice_index bytes 0)) (number_found (number_of bytes)) (word_found f.symbol f.len))
      (longest_alike (allowed_for e (above F) true) (allowed_for e F false) (words_for e p) no_front bytes (alike_for e F) h)

  -- ---- both readers

  abbrev pub InCall : List Frame → Type 0
  InCall (frame.Call c ∷ F) = Unit {0}
  InCall _ = ⊥

  -- what a call awaits is awaited inside of it
  abbrev pub Held : Expect → List Frame → Type 0
  Held expect.Start F = Unit {0}
  Held expect.Operand F = Unit {0}
  Held (expect.Exponent at) F = Unit {0}
  Held (expect.Operator c) F = Unit {0}
  Held expect.End F = Unit {0}
  Held _ F = InCall F

  -- a reader in a quoted text, and one of this text alone
  pub record Twin (r s : Reader) : Type 0 where
    pub expect : r.expect ≡ s.expect
    pub frames : r.frames ≡ above s.frames
    pub quoted : r.quoted ≡ true
    pub alone : s.quoted ≡ false
    pub held : Held s.expect s.frames

  first_held : (name : Call) (c : CallFrame) (F : List Frame) → Held (first_argument name) (frame.Call c ∷ F)
  first_held call.Condition c F = tt
  first_held call.IsNull c F = tt
  first_held call.IsNotNull c F = tt
  first_held call.HasValue c F = tt
  first_held call.FirstNonNull c F = tt
  first_held name c F = tt

  later_held : (name : Call) (c : CallFrame) (F : List Frame) → Held (later_argument name) (frame.Call c ∷ F)
  later_held call.FirstNonNull c F = tt
  later_held name c F = tt

  leaf_held : (e : Expect) (F : List Frame) (it : Node) → Held e F → Held (after_leaf_of e it) F
  leaf_held expect.Item F it h = h
  leaf_held expect.Plain F it h = h
  leaf_held e F it h = elim (is_count_of it) as (λ t. Held (cond t expect.End (expect.Operator true)) F) [ true ↦ tt | false ↦ tt ]

  -- a comma or a bracket that closes stands inside of a call or a bracket
  abbrev closes : Symbol → Bool
  closes symbol.Close = true
  closes symbol.Comma = true
  closes _ = false

  abbrev others : List Symbol → Type 0
  others ws = all_of (λ w. not (closes w)) ws ≡ true

  others_operands : (p : Place) → others (operands_of p)
  unfolding operands_of
  others_operands place.Aggregate = refl
  others_operands place.Program = refl

  others_start : (p : Place) → others (start_of p)
  unfolding start_of
  others_start place.Aggregate = refl
  others_start place.Program = refl

  others_items : (p : Place) → others (items_of_place p)
  unfolding items_of_place
  others_items place.Aggregate = refl
  others_items place.Program = refl

  others_bracket : others bracket_of
  unfolding bracket_of
  others_bracket = refl

  others_nothing : others nothing_of
  unfolding nothing_of
  others_nothing = refl

  abbrev IsSome : List Frame → Type 0
  IsSome [] = ⊥
  IsSome (f ∷ F) = Unit {0}

  enclosed_some : (F : List Frame) (f : Frame) → enclosing_of F ≡ Some f → IsSome (frames_reduced 1 F)
  enclosed_some [] f e = absurd cc
  enclosed_some (frame.Pending spot ∷ F) f e =
      elim (nat_le 1 (node_level spot.node)) as (λ t. IsSome (cond t (frames_reduced 1 F) (frame.Pending spot ∷ F)))
      [ true ↦ enclosed_some F f e | false ↦ tt ]
  enclosed_some (frame.Bracket ∷ F) f e = tt
  enclosed_some (frame.Quote ∷ F) f e = tt
  enclosed_some (frame.Call c ∷ F) f e = tt

  none_closes : (x : Option Frame) (c s : Bool) (w : Symbol) → x ≡ None → closes w ≡ true → is_allowed_of (allowed_in x c s) w ≡ true → ⊥
  none_closes None c s symbol.Close e h g = absurd cc
  none_closes None c s symbol.Comma e h g = absurd cc
  none_closes None c s w e h g = absurd cc
  none_closes (Some f) c s w e h g = absurd cc

  none_or : (x : Option Frame) → (x ≡ None) ⊎ ((f : Frame) × (x ≡ Some f))
  none_or None = inl refl
  none_or (Some f) = inr (f, refl)

  call_some : (F : List Frame) → InCall F → IsSome (frames_reduced 1 F)
  call_some (frame.Call c ∷ F) h = tt
  call_some F h = absurd h

  not_closes : (ws : List Symbol) (w : Symbol) → others ws → IsAmong w ws → closes w ≡ true → ⊥
  not_closes ws w o among e = (let no : not (closes w) ≡ true = among_all (λ v. not (closes v)) ws w o among in let k : not true ≡ true = ap not (sym e)
      ∙ no in absurd cc)

  some_left : (e : Expect) (F : List Frame) (p : Place) (w : Symbol) → Held e F → May e F false p (token.Word w) → closes w ≡ true
      → IsSome (frames_reduced 1 F)
  unfolding allowed_after
  some_left (expect.Operator c) F p w held may h =
      elim (none_or (enclosing_of F)) [
        | inl e ↦ absurd (none_closes (enclosing_of F) c (not (compares F)) w e h may.1)
        | inr f ↦ enclosed_some F f.0 f.1
      ]
  some_left expect.Start F p w held may h = absurd (not_closes (start_of p) w (others_start p) may.0 h)
  some_left expect.Operand F p w held may h = absurd (not_closes (operands_of p) w (others_operands p) may.0 h)
  some_left (expect.Exponent at) F p w held may h = absurd (not_closes nothing_of w others_nothing may.0 h)
  some_left expect.End F p w held may h = absurd (not_closes nothing_of w others_nothing may.0 h)
  some_left e F p w held may h = call_some F held

  module _ (at : ℕ) (ns ms : List Spot) (o u : ℕ) (c d : Option ℕ) where
    abbrev pub Steps : Expect → List Frame → Token → Type 0
    Steps e F t = Twin (with_token (rd e (above F) ns o c true) at t) (with_token (rd e F ms u d false) at t)

    open_twin : (e : Expect) (F : List Frame) → Held e F → Steps e F (token.Word symbol.Open)
    unfolding with_token with_word with_open
    open_twin expect.Bracket (frame.Call k ∷ F) h =
        record { expect = refl; frames = refl; quoted = refl; alone = refl; held = first_held k.call k F }
    open_twin expect.Bracket F h = absurd h
    open_twin e F h = record { expect = refl; frames = refl; quoted = refl; alone = refl; held = tt }

    rest_above : (G : List Frame) → IsSome G → rest_of (above G) ≡ above (rest_of G)
    rest_above [] h = absurd h
    rest_above (f ∷ G) h = refl

    close_twin : (e : Expect) (F : List Frame) → IsSome (frames_reduced 1 F) → Steps e F (token.Word symbol.Close)
    unfolding with_token with_word with_close
    close_twin e F some = record {
      expect = refl;
      frames = ap (λ (x : List Frame). rest_of x) (reduced_above 1 F) ∙ rest_above (frames_reduced 1 F) some;
      quoted = refl;
      alone = refl;
      held = tt;
    }

    comma_held : (e : Expect) (F G : List Frame) → Held e F → IsSome G → G ≡ frames_reduced 1 F → (xs ys : List Spot)
        → Twin (comma_in (above G) xs (rd e (above F) ns o c true)) (comma_in G ys (rd e F ms u d false))
    comma_held e F [] h some same xs ys = absurd some
    comma_held e F (frame.Call k ∷ G) h some same xs ys =
        record { expect = refl; frames = refl; quoted = refl; alone = refl; held = later_held k.call (counted_of k) G }
    comma_held (expect.Operator x) F (frame.Bracket ∷ G) h some same xs ys =
        record { expect = refl; frames = refl; quoted = refl; alone = refl; held = tt }
    comma_held (expect.Operator x) F (frame.Quote ∷ G) h some same xs ys =
        record { expect = refl; frames = refl; quoted = refl; alone = refl; held = tt }
    comma_held (expect.Operator x) F (frame.Pending spot ∷ G) h some same xs ys =
        record { expect = refl; frames = refl; quoted = refl; alone = refl; held = tt }
    comma_held expect.Start F (f ∷ G) h some same xs ys = record { expect = refl; frames = refl; quoted = refl; alone = refl; held = tt }
    comma_held expect.Operand F (f ∷ G) h some same xs ys = record { expect = refl; frames = refl; quoted = refl; alone = refl; held = tt }
    comma_held (expect.Exponent x) F (f ∷ G) h some same xs ys = record { expect = refl; frames = refl; quoted = refl; alone = refl; held = tt }
    comma_held expect.End F (f ∷ G) h some same xs ys = record { expect = refl; frames = refl; quoted = refl; alone = refl; held = tt }
    comma_held e (frame.Call k ∷ F) (f ∷ G) h some same xs ys = absurd cc
    comma_held e F G h some same xs ys = absurd h

    comma_twin : (e : Expect) (F : List Frame) → Held e F → IsSome (frames_reduced 1 F) → Steps e F (token.Word symbol.Comma)
    unfolding with_token with_word with_comma
    comma_twin e F h some =
        subst (λ (x : List Frame). Twin (comma_in x (nodes_reduced 1 (above F) ns) (rd e (above F) ns o c true))
        (comma_in (frames_reduced 1 F) (nodes_reduced 1 F ms) (rd e F ms u d false))) (sym (reduced_above 1 F))
        (comma_held e F (frames_reduced 1 F) h some refl (nodes_reduced 1 (above F) ns) (nodes_reduced 1 F ms))

    word_twin : (e : Expect) (F : List Frame) (p : Place) (w : Symbol) → Held e F → May e F false p (token.Word w) → (w ≡ symbol.Quote → ⊥)
        → Steps e F (token.Word w)
    unfolding with_token with_word with_leaf with_sign with_operator with_call
    word_twin e F p symbol.Open h may plain = open_twin e F h
    word_twin e F p symbol.Close h may plain = close_twin e F (some_left e F p symbol.Close h may refl)
    word_twin e F p symbol.Comma h may plain = comma_twin e F h (some_left e F p symbol.Comma h may refl)
    word_twin e F p symbol.Quote h may plain = absurd (plain refl)
    word_twin e F p symbol.Caret h may plain = record { expect = refl; frames = refl; quoted = refl; alone = refl; held = tt }
    word_twin e F p symbol.Minus h may plain = record { expect = refl; frames = refl; quoted = refl; alone = refl; held = tt }
    word_twin e F p symbol.Bang h may plain = record { expect = refl; frames = refl; quoted = refl; alone = refl; held = tt }
    word_twin e F p (symbol.Operator op) h may plain = record {
      expect = refl;
      frames = ap (λ (x : List Frame). frame.Pending (record { at = at; node = node.Binary op }) ∷ x) (reduced_above (level_of op) F);
      quoted = refl;
      alone = refl;
      held = tt;
    }
    word_twin e F p (symbol.Call name) h may plain = record { expect = refl; frames = refl; quoted = refl; alone = refl; held = tt }
    word_twin e F p (symbol.Item f) h may plain =
        record { expect = refl; frames = refl; quoted = refl; alone = refl; held = leaf_held e F (node.Item f) h }

    pub token_twin : (e : Expect) (F : List Frame) (p : Place) (t : Token) → Held e F → May e F false p t → (t ≡ token.Word symbol.Quote → ⊥) → Steps e F t
    unfolding with_token with_leaf with_exponent
    token_twin e F p (token.Word w) h may plain = word_twin e F p w h may (λ q. plain (ap (λ (x : Symbol). token.Word x) q))
    token_twin e F p (token.Number n) h may plain =
        record { expect = refl; frames = refl; quoted = refl; alone = refl; held = leaf_held e F (node.Number n) h }
    token_twin e F p (token.Exponent n) h may plain = record { expect = refl; frames = refl; quoted = refl; alone = refl; held = tt }
