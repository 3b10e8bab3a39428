-- What the reader does at each word of a form.
use Rattle.std.proofs.Common.{◌≡◌, ℕ, ◌+◌, ◌-◌, ◌<◌, ◌≤◌, Bool, true, false, cond, List, [], ◌∷◌, ◌++◌, length, take, drop, Option, Some, None, refl, sym}
use Rattle.std.proofs.Common.{ap, subst, ◌∙◌, inl, inr, arith}
use Rattle.std.specs.Prelude.{◌||◌, not, nat_eq, nat_lt, nat_le, slice_range}
use Rattle.std.specs.Char.{is_ascii_digit}
use Rattle.std.specs.Str.Parse.{digits_value}
use Rattle.std.proofs.lemmas.Bool.Decides.{nat_tests}
use Rattle.std.proofs.lemmas.List.{take-append-le, drop-append-le, length-drop}
use Rattle.dh_base.specs.Uid.{uid_of}
use Rattle.dh_base.specs.declared.plain.Rate.TheVariants as rates
use Rattle.expr_lang.specs.declared.tree.Place.{Place}
use Rattle.expr_lang.specs.declared.tree.Place.TheVariants as place
use Rattle.expr_lang.specs.declared.tree.Unary.{Unary}
use Rattle.expr_lang.specs.declared.tree.Unary.TheVariants as unary
use Rattle.expr_lang.specs.declared.tree.Binary.{Binary}
use Rattle.expr_lang.specs.declared.tree.Binary.TheVariants as binary
use Rattle.expr_lang.specs.declared.words.Symbol.{Symbol}
use Rattle.expr_lang.specs.declared.words.Symbol.TheVariants as symbol
use Rattle.expr_lang.specs.declared.words.Call.{Call}
use Rattle.expr_lang.specs.declared.words.ItemForm.{ItemForm}
use Rattle.expr_lang.specs.declared.words.ItemForm.TheVariants as form
use Rattle.expr_lang.specs.declared.reading.Spot.{Spot}
use Rattle.expr_lang.specs.declared.reading.Node.TheVariants as node
use Rattle.expr_lang.specs.declared.reading.Frame.{Frame}
use Rattle.expr_lang.specs.declared.reading.Frame.TheVariants as frame
use Rattle.expr_lang.specs.declared.reading.CallFrame.{CallFrame}
use Rattle.expr_lang.specs.declared.reading.Expect.{Expect}
use Rattle.expr_lang.specs.declared.reading.Expect.TheVariants as expect
use Rattle.expr_lang.specs.declared.reading.Token.TheVariants as token
use Rattle.expr_lang.specs.declared.reading.Reader.{Reader}
use Rattle.expr_lang.specs.Item.{uid_from, item_from}
use Rattle.expr_lang.specs.Reading.{level_of, enclosing_of, compares, least_arguments, most_arguments, allowed_in, all_allowed}
use Rattle.expr_lang.specs.Reading.{allowed_after, words_for, takes_number, frames_reduced, nodes_reduced, spot_of, is_count_of, with_leaf, with_sign}
use Rattle.expr_lang.specs.Reading.{with_operator, first_argument, with_open, call_frame, with_call, joined, node_of_call, counted_of, later_argument}
use Rattle.expr_lang.specs.Reading.{comma_in, with_comma, closed, with_close, with_quote, with_word, with_exponent, with_token, crowded_at}
use Rattle.expr_lang.specs.Stack.{top_of, rest_of}
use Rattle.expr_lang.specs.Token.{is_allowed_of, is_comparison_of}
use Rattle.expr_lang.specs.Words.{text_of, start_of, operands_of, items_of_place, followers, marks_of, bracket_of}
use Rattle.expr_grammar.specs.Grammar.{IsBlank, IsNumber, IsExponent, IsWord, IsAmong, IsCall, IsSign, sign_text, after_blanks, symbol_text, behind_point}
use Rattle.expr_grammar.specs.Grammar.{number_value}
use Rattle.expr_grammar.proofs.Words.{first_is, all_of, among_all, IsRaised}
use Rattle.expr_grammar.proofs.Tokens.{May}
use Rattle.expr_grammar.proofs.Steps.{At, Goes, then_goes, step, word_step}

abbrev pub rd : Expect → List Frame → List Spot → ℕ → Option ℕ → Bool → Reader
rd e fs ns o c q = record { expect = e; frames = fs; nodes = ns; opened = o; crowded = c; quoted = q }

-- ---- where an operand may stand

abbrev pub IsOpen : Expect → Type 0
IsOpen expect.Start = Unit {0}
IsOpen expect.Operand = Unit {0}
IsOpen _ = ⊥

pub among_start : (p : Place) (w : Symbol) → IsAmong w (operands_of p) → IsAmong w (start_of p)
unfolding start_of operands_of
among_start place.Aggregate w h = h
among_start place.Program w h = more (operands_of place.Program) h
  where
    more : (ws : List Symbol) → IsAmong w ws
        → IsAmong w (ws ++ (symbol.Item form.EventCount ∷ symbol.Item form.EnrollmentCount ∷ symbol.Item form.EntityCount ∷ []))
    more [] h = absurd h
    more (v ∷ vs) (inl h) = inl h
    more (v ∷ vs) (inr h) = inr (more vs h)

pub among_open : (e : Expect) (p : Place) (w : Symbol) → IsOpen e → IsAmong w (operands_of p) → IsAmong w (words_for e p)
among_open expect.Start p w h g = among_start p w g
among_open expect.Operand p w h g = g
among_open e p w h g = absurd h

pub all_may : (w : Symbol) → is_allowed_of all_allowed w ≡ true
all_may symbol.Open = refl
all_may symbol.Close = refl
all_may symbol.Comma = refl
all_may symbol.Quote = refl
all_may symbol.Caret = refl
all_may symbol.Minus = refl
all_may symbol.Bang = refl
all_may (symbol.Operator o) = refl
all_may (symbol.Call c) = refl
all_may (symbol.Item f) = refl

pub may_open : (e : Expect) (fs : List Frame) (q : Bool) (p : Place) (w : Symbol) → IsOpen e → IsAmong w (operands_of p)
    → May e fs q p (token.Word w)
may_open expect.Start fs q p w h g = (among_start p w g, all_may w)
may_open expect.Operand fs q p w h g = (g, all_may w)
may_open e fs q p w h g = absurd h

number_open : (e : Expect) → IsOpen e → (takes_number e ≡ true) × ¬ IsRaised e
number_open expect.Start h = (refl, λ r. r)
number_open expect.Operand h = (refl, λ r. r)
number_open e h = absurd h

pub is_minus : (p : Place) → IsAmong symbol.Minus (operands_of p)
unfolding operands_of
is_minus place.Aggregate = inl refl
is_minus place.Program = inl refl

pub is_bang : (p : Place) → IsAmong symbol.Bang (operands_of p)
unfolding operands_of
is_bang place.Aggregate = inr (inl refl)
is_bang place.Program = inr (inl refl)

pub is_opening : (p : Place) → IsAmong symbol.Open (operands_of p)
unfolding operands_of
is_opening place.Aggregate = inr (inr (inl refl))
is_opening place.Program = inr (inr (inl refl))

pub is_operand : (p : Place) (w : Symbol) → IsAmong w (items_of_place p) → IsAmong w (operands_of p)
unfolding operands_of items_of_place
is_operand place.Aggregate w h = inr (inr (inr (inr (inr (inr (inr (inr (inr h))))))))
is_operand place.Program w h = inr (inr (inr (inr (inr (inr (inr (inr (inr (inr (inr h))))))))))

abbrev counts : Symbol → Bool
counts (symbol.Item f) = is_count_of (node.Item f)
counts _ = false

no_counts : (p : Place) → all_of (λ w. not (counts w)) (items_of_place p) ≡ true
unfolding items_of_place
no_counts place.Aggregate = refl
no_counts place.Program = refl

not_true : (b : Bool) → not b ≡ true → b ≡ false
not_true true e = absurd cc
not_true false e = refl

pub no_count : (p : Place) (f : ItemForm) → IsAmong (symbol.Item f) (items_of_place p) → is_count_of (node.Item f) ≡ false
no_count p f h = not_true (is_count_of (node.Item f)) (among_all (λ w. not (counts w)) (items_of_place p) (symbol.Item f) (no_counts p) h)

-- ---- items

uid_local : (from : ℕ) (word rest : List ℕ) → from + 11 ≤ length word → uid_from from (word ++ rest) ≡ uid_from from word
uid_local from word rest h =
    let a : nat_lt (length (word ++ rest)) (from + 11) ≡ false = (let l = length_sum word rest in grind (arith, nat_tests)) in
    let b : nat_lt (length word) (from + 11) ≡ false = grind (arith, nat_tests) in
    let d : drop from (word ++ rest) ≡ drop from word ++ rest = drop-append-le from word rest (omega arith) in
    let t : take (from + 11 - from) (drop from word ++ rest) ≡ take (from + 11 - from) (drop from word) =
    take-append-le (from + 11 - from) (drop from word) rest (omega (arith, length-drop from word)) in
    ap (λ (x : Bool). cond x None (uid_of (slice_range (word ++ rest) from (from + 11)))) a
    ∙ ap (λ (l : List ℕ). uid_of (take (from + 11 - from) l)) d
    ∙ ap uid_of t
    ∙ ap (λ (x : Bool). cond x None (uid_of (slice_range word from (from + 11)))) (sym b)
  where
    length_sum : (xs ys : List ℕ) → length (xs ++ ys) ≡ length xs + length ys
    length_sum [] ys = omega arith
    length_sum (x ∷ xs) ys = let h = length_sum xs ys in omega arith

-- an item is read from its own bytes
pub item_local : (f : ItemForm) (word rest : List ℕ) → length word ≡ length (text_of (symbol.Item f)) → item_from f (word ++ rest) ≡ item_from f word
unfolding item_from text_of
item_local form.Element word rest h = rw (uid_local 2 word rest (omega (arith, h))) refl
item_local form.ElementCombo word rest h = rw (uid_local 2 word rest (omega (arith, h)), uid_local 14 word rest (omega (arith, h))) refl
item_local form.ElementCombos word rest h =
    rw (uid_local 2 word rest (omega (arith, h)), uid_local 14 word rest (omega (arith, h)), uid_local 26 word rest (omega (arith, h))) refl
item_local form.Constant word rest h = rw (uid_local 2 word rest (omega (arith, h))) refl
item_local form.Group word rest h = rw (uid_local 4 word rest (omega (arith, h))) refl
item_local form.Days word rest h = refl
item_local (form.Rate rates.Expected) word rest h = rw (uid_local 2 word rest (omega (arith, h))) refl
item_local (form.Rate rates.Actual) word rest h = rw (uid_local 2 word rest (omega (arith, h))) refl
item_local (form.Rate rates.OnTime) word rest h = rw (uid_local 2 word rest (omega (arith, h))) refl
item_local (form.Rate rates.Reported) word rest h = rw (uid_local 2 word rest (omega (arith, h))) refl
item_local (form.Rate rates.ReportedOnTime) word rest h = rw (uid_local 2 word rest (omega (arith, h))) refl
item_local form.StageElement word rest h = rw (uid_local 2 word rest (omega (arith, h)), uid_local 14 word rest (omega (arith, h))) refl
item_local form.Attribute word rest h = rw (uid_local 2 word rest (omega (arith, h))) refl
item_local form.EventDate word rest h = refl
item_local form.EnrollmentDate word rest h = refl
item_local form.EventCount word rest h = refl
item_local form.EnrollmentCount word rest h = refl
item_local form.EntityCount word rest h = refl

-- ---- moves

is_among_follower : (o : Binary) → 1 ≤ level_of o → IsAmong (symbol.Operator o) followers
unfolding followers
is_among_follower binary.Or h = inr (inr (inr (inr (inl refl))))
is_among_follower binary.And h = inr (inr (inr (inr (inr (inl refl)))))
is_among_follower binary.Equal h = inr (inr (inr (inr (inr (inr (inl refl))))))
is_among_follower binary.NotEqual h = inr (inr (inr (inr (inr (inr (inr (inl refl)))))))
is_among_follower binary.Less h = inr (inr (inr (inr (inr (inr (inr (inr (inl refl))))))))
is_among_follower binary.AtMost h = inr (inr (inr (inr (inr (inr (inr (inr (inr (inl refl)))))))))
is_among_follower binary.Greater h = inr (inr (inr (inr (inr (inr (inr (inr (inr (inr (inl refl))))))))))
is_among_follower binary.AtLeast h = inr (inr (inr (inr (inr (inr (inr (inr (inr (inr (inr (inl refl)))))))))))
is_among_follower binary.Add h = inr (inr (inr (inr (inr (inr (inr (inr (inr (inr (inr (inr (inl refl))))))))))))
is_among_follower binary.Subtract h = inr (inr (inr (inr (inr (inr (inr (inr (inr (inr (inr (inr (inr (inl refl)))))))))))))
is_among_follower binary.Multiply h = inr (inr (inr (inr (inr (inr (inr (inr (inr (inr (inr (inr (inr (inr (inl refl))))))))))))))
is_among_follower binary.Divide h = inr (inr (inr (inr (inr (inr (inr (inr (inr (inr (inr (inr (inr (inr (inr (inl refl)))))))))))))))
is_among_follower binary.Remainder h = inr (inr (inr (inr (inr (inr (inr (inr (inr (inr (inr (inr (inr (inr (inr (inr (inl refl))))))))))))))))
is_among_follower binary.DaysBetween h = absurd (omega arith)
is_among_follower binary.Comma h = absurd (omega arith)

caret_follows : IsAmong symbol.Caret followers
unfolding followers
caret_follows = inl refl

close_follows : IsAmong symbol.Close followers
unfolding followers
close_follows = inr (inl refl)

comma_follows : IsAmong symbol.Comma followers
unfolding followers
comma_follows = inr (inr (inl refl))

quote_follows : IsAmong symbol.Quote followers
unfolding followers
quote_follows = inr (inr (inr (inl refl)))

close_marks : IsAmong symbol.Close marks_of
unfolding marks_of
close_marks = inl refl

comma_marks : IsAmong symbol.Comma marks_of
unfolding marks_of
comma_marks = inr (inl refl)

quote_marks : IsAmong symbol.Quote marks_of
unfolding marks_of
quote_marks = inr (inr (inl refl))

open_bracket : IsAmong symbol.Open bracket_of
unfolding bracket_of
open_bracket = inl refl

pub comparison_in : (f : Option Frame) (c x : Bool) → (allowed_in f c x).comparison ≡ x
comparison_in None c x = refl
comparison_in (Some (frame.Pending s)) c x = refl
comparison_in (Some frame.Bracket) c x = refl
comparison_in (Some frame.Quote) c x = refl
comparison_in (Some (frame.Call k)) c x = refl

pub caret_in : (f : Option Frame) (c x : Bool) → (allowed_in f c x).caret ≡ c
caret_in None c x = refl
caret_in (Some (frame.Pending s)) c x = refl
caret_in (Some frame.Bracket) c x = refl
caret_in (Some frame.Quote) c x = refl
caret_in (Some (frame.Call k)) c x = refl

pub spot_token : (e : Expect) (at : ℕ) (n : ℕ) (fs : List Frame) (ns : List Spot) (o : ℕ) (c : Option ℕ) (q : Bool) → IsOpen e
    → with_token (rd e fs ns o c q) at (token.Number n) ≡ rd (expect.Operator true) fs (ns ++ spot_of at (node.Number n) ∷ []) o c q
unfolding with_token with_leaf
spot_token expect.Start at n fs ns o c q h = refl
spot_token expect.Operand at n fs ns o c q h = refl
spot_token e at n fs ns o c q h = absurd h

pub item_token : (e : Expect) (at : ℕ) (f : ItemForm) (fs : List Frame) (ns : List Spot) (o : ℕ) (c : Option ℕ) (q : Bool) → IsOpen e
    → with_token (rd e fs ns o c q) at (token.Word (symbol.Item f))
    ≡ rd (cond (is_count_of (node.Item f)) expect.End (expect.Operator true)) fs (ns ++ spot_of at (node.Item f) ∷ []) o c q
unfolding with_token with_word with_leaf
item_token expect.Start at f fs ns o c q h = refl
item_token expect.Operand at f fs ns o c q h = refl
item_token e at f fs ns o c q h = absurd h

pub open_token : (e : Expect) (at : ℕ) (fs : List Frame) (ns : List Spot) (o : ℕ) (c : Option ℕ) (q : Bool) → IsOpen e
    → with_token (rd e fs ns o c q) at (token.Word symbol.Open) ≡ rd expect.Operand (frame.Bracket ∷ fs) ns (o + 1) (crowded_at (rd e fs ns o c q) at) q
unfolding with_token with_word with_open
open_token expect.Start at fs ns o c q h = refl
open_token expect.Operand at fs ns o c q h = refl
open_token e at fs ns o c q h = absurd h

module _ (p : Place) (text : List ℕ) where
  -- the reader gets to a state somewhere after
  abbrev pub Comes : Reader → ℕ → List ℕ → Reader → List ℕ → Type 0
  Comes r at bytes to rest = (past : ℕ) × Goes p text r at bytes to past rest

  moved : (r : Reader) (at : ℕ) (bytes : List ℕ) (to other : Reader) (past : ℕ) (rest : List ℕ) → to ≡ other → Goes p text r at bytes to past rest
      → Comes r at bytes other rest
  moved r at bytes to other past rest e g = (past, subst (λ (x : Reader). Goes p text r at bytes x past rest) e g)

  pub number_move : (e : Expect) (fs : List Frame) (ns : List Spot) (o : ℕ) (c : Option ℕ) (q : Bool) (at : ℕ) (b digits decimals rest : List ℕ) → IsOpen e
      → IsBlank b → IsNumber digits decimals → first_is is_ascii_digit rest ≡ false → first_is (λ x. nat_eq x 46) rest ≡ false
      → At text at (after_blanks b (digits ++ behind_point decimals) rest)
      → Comes (rd e fs ns o c q) at (after_blanks b (digits ++ behind_point decimals) rest)
      (rd (expect.Operator true) fs (ns ++ spot_of (at + length b) (node.Number (number_value digits decimals)) ∷ []) o c q) rest
  number_move e fs ns o c q at b digits decimals rest h blank number no_digit no_point here =
      moved (rd e fs ns o c q) at (after_blanks b (digits ++ behind_point decimals) rest) _ _ _ rest
      (spot_token e (at + length b) (number_value digits decimals) fs ns o c q h)
      (step p text (rd e fs ns o c q) at (token.Number (number_value digits decimals)) b (digits ++ behind_point decimals) rest blank (number_open e h) (
        digits,
        decimals,
        refl,
        number,
        refl,
      ) (no_digit, no_point) here)

  pub item_move : (e : Expect) (fs : List Frame) (ns : List Spot) (o : ℕ) (c : Option ℕ) (q : Bool) (at : ℕ) (b : List ℕ) (f : ItemForm) (word rest : List ℕ)
      → IsOpen e → IsBlank b → IsAmong (symbol.Item f) (items_of_place p) → IsWord (text_of (symbol.Item f)) word → At text at (after_blanks b word rest)
      → Comes (rd e fs ns o c q) at (after_blanks b word rest) (rd (expect.Operator true) fs (ns ++ spot_of (at + length b) (node.Item f) ∷ []) o c q) rest
  item_move e fs ns o c q at b f word rest h blank among is here =
      moved (rd e fs ns o c q) at (after_blanks b word rest) _ _ _ rest
      (item_token e (at + length b) f fs ns o c q h
      ∙ ap (λ (x : Bool). rd (cond x expect.End (expect.Operator true)) fs (ns ++ spot_of (at + length b) (node.Item f) ∷ []) o c q) (no_count p f among))
      (step p text (rd e fs ns o c q) at (token.Word (symbol.Item f)) b word rest blank
      (may_open e fs q p (symbol.Item f) h (is_operand p (symbol.Item f) among)) is (λ no. absurd cc) here)

  pub open_move : (e : Expect) (fs : List Frame) (ns : List Spot) (o : ℕ) (c : Option ℕ) (q : Bool) (at : ℕ) (b rest : List ℕ) → IsOpen e → IsBlank b
      → At text at (symbol_text b symbol.Open rest)
      → Comes (rd e fs ns o c q) at (symbol_text b symbol.Open rest)
      (rd expect.Operand (frame.Bracket ∷ fs) ns (o + 1) (crowded_at (rd e fs ns o c q) (at + length b)) q) rest
  open_move e fs ns o c q at b rest h blank here =
      moved (rd e fs ns o c q) at (symbol_text b symbol.Open rest) _ _ _ rest (open_token e (at + length b) fs ns o c q h)
      (word_step p text (rd e fs ns o c q) at symbol.Open b rest blank tt (may_open e fs q p symbol.Open h (is_opening p)) (λ no. absurd cc) here)

  minus_move : (e : Expect) (fs : List Frame) (ns : List Spot) (o : ℕ) (c : Option ℕ) (q : Bool) (at : ℕ) (b rest : List ℕ) → IsOpen e → IsBlank b
      → At text at (symbol_text b symbol.Minus rest)
      → Comes (rd e fs ns o c q) at (symbol_text b symbol.Minus rest)
      (rd expect.Operand (frame.Pending (spot_of (at + length b) (node.Unary unary.Negate)) ∷ fs) ns o c q) rest
  unfolding with_token with_word with_sign
  minus_move e fs ns o c q at b rest h blank here =
      (_, word_step p text (rd e fs ns o c q) at symbol.Minus b rest blank tt (may_open e fs q p symbol.Minus h (is_minus p)) (λ no. absurd cc) here)

  bang_move : (e : Expect) (fs : List Frame) (ns : List Spot) (o : ℕ) (c : Option ℕ) (q : Bool) (at : ℕ) (b rest : List ℕ) → IsOpen e → IsBlank b
      → At text at (symbol_text b symbol.Bang rest)
      → Comes (rd e fs ns o c q) at (symbol_text b symbol.Bang rest)
      (rd expect.Operand (frame.Pending (spot_of (at + length b) (node.Unary unary.Not)) ∷ fs) ns o c q) rest
  unfolding with_token with_word with_sign
  bang_move e fs ns o c q at b rest h blank here =
      (_, word_step p text (rd e fs ns o c q) at symbol.Bang b rest blank tt (may_open e fs q p symbol.Bang h (is_bang p)) (λ no. absurd cc) here)

  pub caret_move : (fs : List Frame) (ns : List Spot) (o : ℕ) (c : Option ℕ) (q : Bool) (at : ℕ) (b rest : List ℕ) → IsBlank b
      → At text at (symbol_text b symbol.Caret rest)
      → Comes (rd (expect.Operator true) fs ns o c q) at (symbol_text b symbol.Caret rest) (rd (expect.Exponent (at + length b)) fs ns o c q) rest
  unfolding with_token with_word allowed_after
  caret_move fs ns o c q at b rest blank here = (
    _,
    word_step p text (rd (expect.Operator true) fs ns o c q) at symbol.Caret b rest blank tt (
      caret_follows,
      caret_in (enclosing_of fs) true (not (compares fs)),
    ) (λ no. absurd cc) here,
  )

  pub exponent_move : (a : ℕ) (fs : List Frame) (ns : List Spot) (o : ℕ) (c : Option ℕ) (q : Bool) (at : ℕ) (b digits rest : List ℕ) → IsBlank b
      → IsExponent digits → first_is is_ascii_digit rest ≡ false → At text at (after_blanks b digits rest)
      → Comes (rd (expect.Exponent a) fs ns o c q) at (after_blanks b digits rest)
      (rd (expect.Operator false) fs (ns ++ spot_of a (node.Unary (unary.Power (digits_value 10 digits))) ∷ []) o c q) rest
  unfolding with_token with_exponent
  exponent_move a fs ns o c q at b digits rest blank is no_digit here =
      (_, step p text (rd (expect.Exponent a) fs ns o c q) at (token.Exponent (digits_value 10 digits)) b digits rest blank tt (is, refl) no_digit here)

  pub operator_move : (power : Bool) (fs : List Frame) (ns : List Spot) (o : ℕ) (c : Option ℕ) (q : Bool) (at : ℕ) (b : List ℕ) (op : Binary) (rest : List ℕ)
      → IsBlank b → 1 ≤ level_of op → (is_comparison_of op ≡ true → compares fs ≡ false) → first_is (nat_eq 61) rest ≡ false
      → At text at (symbol_text b (symbol.Operator op) rest)
      → Comes (rd (expect.Operator power) fs ns o c q) at (symbol_text b (symbol.Operator op) rest)
      (rd expect.Operand (frame.Pending (spot_of (at + length b) (node.Binary op)) ∷ frames_reduced (level_of op) fs) (nodes_reduced (level_of op) fs ns) o
      c q) rest
  unfolding with_token with_word with_operator allowed_after
  operator_move power fs ns o c q at b op rest blank level free no_equal here = (
    _,
    word_step p text (rd (expect.Operator power) fs ns o c q) at (symbol.Operator op) b rest blank tt (
      is_among_follower op level,
      allowed (is_comparison_of op) refl,
    ) (λ is. no_equal) here,
  )
    where
      allowed : (t : Bool) → is_comparison_of op ≡ t → (allowed_in (enclosing_of fs) power (not (compares fs))).comparison || not (is_comparison_of op) ≡ true
      allowed true e = rw (e, comparison_in (enclosing_of fs) power (not (compares fs)), free e) refl
      allowed false e = rw e (or_true (allowed_in (enclosing_of fs) power (not (compares fs))).comparison)
        where
          or_true : (t : Bool) → t || true ≡ true
          or_true true = refl
          or_true false = refl

  -- a call's name and its bracket
  pub name_move : (e : Expect) (fs : List Frame) (ns : List Spot) (o : ℕ) (c : Option ℕ) (q : Bool) (at : ℕ) (b : List ℕ) (name : Call) (d rest : List ℕ)
      → IsOpen e → IsBlank b → IsCall p name → IsBlank d
      → At text at (symbol_text b (symbol.Call name) (symbol_text d symbol.Open rest))
      → (more : Option ℕ) × Comes (rd e fs ns o c q) at (symbol_text b (symbol.Call name) (symbol_text d symbol.Open rest))
      (rd (first_argument name) (frame.Call (call_frame (at + length b) name 0) ∷ fs) ns (o + 1) more q) rest
  unfolding with_token with_word with_call with_open
  name_move e fs ns o c q at b name d rest h blank is blank' here =
      let one =
      word_step p text (rd e fs ns o c q) at (symbol.Call name) b (symbol_text d symbol.Open rest) blank tt
      (may_open e fs q p (symbol.Call name) h is) (λ no. absurd cc) here in
      let r = rd expect.Bracket (frame.Call (call_frame (at + length b) name 0) ∷ fs) ns o c q in
      let two =
      word_step p text r (at + length b + length (text_of (symbol.Call name))) symbol.Open d rest blank' tt (
        open_bracket,
        refl,
      ) (λ no. absurd cc) one.stands in (
        _,
        (
          _,
          then_goes p text (rd e fs ns o c q) at (symbol_text b (symbol.Call name) (symbol_text d symbol.Open rest)) r _ (symbol_text d symbol.Open rest) _
              _ rest one two,
        ),
      )

  pub sign_move : (e : Expect) (fs : List Frame) (ns : List Spot) (o : ℕ) (c : Option ℕ) (q : Bool) (at : ℕ) (b : List ℕ) (sign : Unary) (rest : List ℕ)
      → IsOpen e → IsBlank b → IsSign sign → At text at (after_blanks b (sign_text sign) rest)
      → Comes (rd e fs ns o c q) at (after_blanks b (sign_text sign) rest)
      (rd expect.Operand (frame.Pending (spot_of (at + length b) (node.Unary sign)) ∷ fs) ns o c q) rest
  unfolding text_of
  sign_move e fs ns o c q at b unary.Negate rest h blank is here = minus_move e fs ns o c q at b rest h blank here
  sign_move e fs ns o c q at b unary.Not rest h blank is here = bang_move e fs ns o c q at b rest h blank here
  sign_move e fs ns o c q at b sign rest h blank is here = absurd is

  module _ (power : Bool) (F : List Frame) (N : List Spot) (o : ℕ) (c : Option ℕ) (q : Bool) (at : ℕ) (b rest : List ℕ) (blank : IsBlank b) where
    -- after an operand, where a call or a bracket or a quote is open
    pub comma_move : (cf : CallFrame) (fs : List Frame) (ns : List Spot) → enclosing_of F ≡ Some (frame.Call cf) → frames_reduced 1 F ≡ frame.Call cf ∷ fs
        → nodes_reduced 1 F N ≡ ns → cf.count + 1 < most_arguments cf.call → At text at (symbol_text b symbol.Comma rest)
        → Comes (rd (expect.Operator power) F N o c q) at (symbol_text b symbol.Comma rest)
        (rd (later_argument cf.call) (frame.Call (counted_of cf) ∷ fs) (joined cf ns) o c q) rest
    unfolding with_token with_word with_comma allowed_after
    comma_move cf fs ns outer frames nodes few here =
        let less : nat_lt (cf.count + 1) (most_arguments cf.call) ≡ true = grind (arith, nat_tests) in
        let r = rd (expect.Operator power) F N o c q in
        moved r at (symbol_text b symbol.Comma rest) _ _ _ rest
        (ap (λ (x : List Frame). comma_in x (nodes_reduced 1 F N) r) frames ∙ ap (λ (x : List Spot). comma_in (frame.Call cf ∷ fs) x r) nodes)
        (word_step p text r at symbol.Comma b rest blank tt (
          comma_follows,
          ap (λ (x : Option Frame). (allowed_in x power (not (compares F))).comma) outer
              ∙ less,
        ) (λ no. absurd cc) here)

    pub close_move : (cf : CallFrame) (fs : List Frame) (ns : List Spot) → enclosing_of F ≡ Some (frame.Call cf) → frames_reduced 1 F ≡ frame.Call cf ∷ fs
        → nodes_reduced 1 F N ≡ ns → least_arguments cf.call ≤ cf.count + 1 → At text at (symbol_text b symbol.Close rest)
        → Comes (rd (expect.Operator power) F N o c q) at (symbol_text b symbol.Close rest)
        (rd (expect.Operator true) fs (joined cf ns ++ spot_of cf.at (node_of_call cf.call) ∷ []) (o - 1) c q) rest
    unfolding with_token with_word with_close allowed_after
    close_move cf fs ns outer frames nodes many here =
        let enough : nat_le (least_arguments cf.call) (cf.count + 1) ≡ true = grind (arith, nat_tests) in
        let r = rd (expect.Operator power) F N o c q in
        moved r at (symbol_text b symbol.Close rest) _ _ _ rest
        (ap (λ (x : List Frame). rd (expect.Operator true) (rest_of x) (closed (top_of x) (nodes_reduced 1 F N)) (o - 1) c q) frames
        ∙ ap (λ (x : List Spot). rd (expect.Operator true) fs (joined cf x ++ spot_of cf.at (node_of_call cf.call) ∷ []) (o - 1) c q) nodes)
        (word_step p text r at symbol.Close b rest blank tt (
          close_follows,
          ap (λ (x : Option Frame). (allowed_in x power (not (compares F))).close) outer
              ∙ enough,
        ) (λ no. absurd cc) here)

    pub bracket_move : (fs : List Frame) (ns : List Spot) → enclosing_of F ≡ Some frame.Bracket → frames_reduced 1 F ≡ frame.Bracket ∷ fs
        → nodes_reduced 1 F N ≡ ns → At text at (symbol_text b symbol.Close rest)
        → Comes (rd (expect.Operator power) F N o c q) at (symbol_text b symbol.Close rest) (rd (expect.Operator true) fs ns (o - 1) c q) rest
    unfolding with_token with_word with_close allowed_after
    bracket_move fs ns outer frames nodes here =
        let r = rd (expect.Operator power) F N o c q in
        moved r at (symbol_text b symbol.Close rest) _ _ _ rest
        (ap (λ (x : List Frame). rd (expect.Operator true) (rest_of x) (closed (top_of x) (nodes_reduced 1 F N)) (o - 1) c q) frames
        ∙ ap (λ (x : List Spot). rd (expect.Operator true) fs x (o - 1) c q) nodes)
        (word_step p text r at symbol.Close b rest blank tt (
          close_follows,
          ap (λ (x : Option Frame). (allowed_in x power (not (compares F))).close) outer,
        ) (λ no. absurd cc) here)

    pub unquote_move : (fs : List Frame) (ns : List Spot) → enclosing_of F ≡ Some frame.Quote → frames_reduced 1 F ≡ frame.Quote ∷ fs → nodes_reduced 1 F N ≡ ns
        → At text at (symbol_text b symbol.Quote rest)
        → Comes (rd (expect.Operator power) F N o c q) at (symbol_text b symbol.Quote rest) (rd expect.Comma fs ns o c false) rest
    unfolding with_token with_word with_quote allowed_after
    unquote_move fs ns outer frames nodes here =
        let r = rd (expect.Operator power) F N o c q in
        moved r at (symbol_text b symbol.Quote rest) _ _ _ rest
        (ap (λ (x : List Frame). rd expect.Comma (rest_of x) (nodes_reduced 1 F N) o c false) frames
        ∙ ap (λ (x : List Spot). rd expect.Comma fs x o c false) nodes)
        (word_step p text r at symbol.Quote b rest blank tt (
          quote_follows,
          ap (λ (x : Option Frame). (allowed_in x power (not (compares F))).quote) outer,
        ) (λ no. absurd cc) here)

  module _ (fs : List Frame) (ns : List Spot) (o : ℕ) (c : Option ℕ) (at : ℕ) (b rest : List ℕ) (blank : IsBlank b) where
    pub quote_move : At text at (symbol_text b symbol.Quote rest)
        → Comes (rd expect.Quote fs ns o c false) at (symbol_text b symbol.Quote rest) (rd expect.Operand (frame.Quote ∷ fs) ns o c true) rest
    unfolding with_token with_word with_quote
    quote_move here = (_, word_step p text (rd expect.Quote fs ns o c false) at symbol.Quote b rest blank tt (quote_marks, refl) (λ no. absurd cc) here)

    pub behind_quote_move : (q : Bool) (cf : CallFrame) → At text at (symbol_text b symbol.Comma rest)
        → Comes (rd expect.Comma (frame.Call cf ∷ fs) ns o c q) at (symbol_text b symbol.Comma rest)
        (rd (later_argument cf.call) (frame.Call (counted_of cf) ∷ fs) (joined cf ns) o c q) rest
    unfolding with_token with_word with_comma
    behind_quote_move q cf here =
        (_, word_step p text (rd expect.Comma (frame.Call cf ∷ fs) ns o c q) at symbol.Comma b rest blank tt (comma_marks, refl) (λ no. absurd cc) here)

    pub more_move : (q : Bool) (cf : CallFrame) → At text at (symbol_text b symbol.Comma rest)
        → Comes (rd expect.More (frame.Call cf ∷ fs) ns o c q) at (symbol_text b symbol.Comma rest)
        (rd (later_argument cf.call) (frame.Call (counted_of cf) ∷ fs) (joined cf ns) o c q) rest
    unfolding with_token with_word with_comma
    more_move q cf here =
        (_, word_step p text (rd expect.More (frame.Call cf ∷ fs) ns o c q) at symbol.Comma b rest blank tt (comma_marks, refl) (λ no. absurd cc) here)

    pub last_move : (q : Bool) (cf : CallFrame) → At text at (symbol_text b symbol.Close rest)
        → Comes (rd expect.More (frame.Call cf ∷ fs) ns o c q) at (symbol_text b symbol.Close rest)
        (rd (expect.Operator true) fs (joined cf ns ++ spot_of cf.at (node_of_call cf.call) ∷ []) (o - 1) c q) rest
    unfolding with_token with_word with_close
    last_move q cf here =
        (_, word_step p text (rd expect.More (frame.Call cf ∷ fs) ns o c q) at symbol.Close b rest blank tt (close_marks, refl) (λ no. absurd cc) here)

    pub lone_move : (q : Bool) (cf : CallFrame) → At text at (symbol_text b symbol.Close rest)
        → Comes (rd expect.Close (frame.Call cf ∷ fs) ns o c q) at (symbol_text b symbol.Close rest)
        (rd (expect.Operator true) fs (joined cf ns ++ spot_of cf.at (node_of_call cf.call) ∷ []) (o - 1) c q) rest
    unfolding with_token with_word with_close
    lone_move q cf here =
        (_, word_step p text (rd expect.Close (frame.Call cf ∷ fs) ns o c q) at symbol.Close b rest blank tt (close_marks, refl) (λ no. absurd cc) here)

    -- the arguments that are items or numbers
    pub plain_number : (q : Bool) (digits decimals : List ℕ) → IsNumber digits decimals → first_is is_ascii_digit rest ≡ false
        → first_is (λ x. nat_eq x 46) rest ≡ false → At text at (after_blanks b (digits ++ behind_point decimals) rest)
        → Comes (rd expect.Plain fs ns o c q) at (after_blanks b (digits ++ behind_point decimals) rest)
        (rd expect.More fs (ns ++ spot_of (at + length b) (node.Number (number_value digits decimals)) ∷ []) o c q) rest
    unfolding with_token with_leaf
    plain_number q digits decimals number no_digit no_point here = (
      _,
      step p text (rd expect.Plain fs ns o c q) at (token.Number (number_value digits decimals)) b (digits ++ behind_point decimals) rest blank (
        refl,
        (λ r. r),
      ) (digits, decimals, refl, number, refl) (no_digit, no_point) here,
    )

    pub plain_item : (q : Bool) (f : ItemForm) (word : List ℕ) → IsAmong (symbol.Item f) (items_of_place p) → IsWord (text_of (symbol.Item f)) word
        → At text at (after_blanks b word rest)
        → Comes (rd expect.Plain fs ns o c q) at (after_blanks b word rest) (rd expect.More fs (ns ++ spot_of (at + length b) (node.Item f) ∷ []) o c q) rest
    unfolding with_token with_word with_leaf
    plain_item q f word among is here = (
      _,
      step p text (rd expect.Plain fs ns o c q) at (token.Word (symbol.Item f)) b word rest blank (
        among,
        all_may (symbol.Item f),
      ) is (λ no. absurd cc) here,
    )

    pub lone_item : (q : Bool) (f : ItemForm) (word : List ℕ) → IsAmong (symbol.Item f) (items_of_place p) → IsWord (text_of (symbol.Item f)) word
        → At text at (after_blanks b word rest)
        → Comes (rd expect.Item fs ns o c q) at (after_blanks b word rest) (rd expect.Close fs (ns ++ spot_of (at + length b) (node.Item f) ∷ []) o c q) rest
    unfolding with_token with_word with_leaf
    lone_item q f word among is here = (
      _,
      step p text (rd expect.Item fs ns o c q) at (token.Word (symbol.Item f)) b word rest blank (
        among,
        all_may (symbol.Item f),
      ) is (λ no. absurd cc) here,
    )
