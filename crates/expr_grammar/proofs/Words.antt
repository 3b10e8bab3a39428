-- The next word of a text: what is written as a word is read as it, and what is read is written so.
use Rattle.std.proofs.Common.{◌≡◌, ℕ, suc, ◌<◌, ◌≤◌, Bool, true, false, cond, List, [], ◌∷◌, ◌++◌, length, take, drop, Option, Some, None, Result, Ok, refl}
use Rattle.std.proofs.Common.{sym, ap, subst, ◌⊎◌, ◌∙◌, inl, inr, arith}
use Rattle.std.specs.Prelude.{◌&&◌, ◌||◌, not, nat_eq, nat_lt, slice_index}
use Rattle.std.specs.Char.{is_ascii_digit, is_ascii_alphabetic, is_ascii_alphanumeric}
use Rattle.std.proofs.lemmas.Bool.Decides.{nat_tests}
use Rattle.expr_lang.specs.declared.tree.Place.{Place}
use Rattle.expr_lang.specs.declared.tree.Place.TheVariants as place
use Rattle.expr_lang.specs.declared.tree.Binary.TheVariants as binary
use Rattle.expr_lang.specs.declared.words.Symbol.{Symbol}
use Rattle.expr_lang.specs.declared.words.Symbol.TheVariants as symbol
use Rattle.expr_lang.specs.declared.token.Allowed.{Allowed}
use Rattle.expr_lang.specs.declared.token.Front.{Front}
use Rattle.expr_lang.specs.declared.reading.Frame.{Frame}
use Rattle.expr_lang.specs.declared.reading.Expect.{Expect}
use Rattle.expr_lang.specs.declared.reading.Expect.TheVariants as expect
use Rattle.expr_lang.specs.declared.reading.Token.TheVariants as token
use Rattle.expr_lang.specs.declared.reading.Found.{Found}
use Rattle.expr_lang.specs.Words.{text_of, start_of, operands_of, items_of_place, followers, marks_of, bracket_of, nothing_of}
use Rattle.expr_lang.specs.Token.{is_allowed_of, fits_of, front_of, better_of, longest_from, no_front, longest_of, number_of}
use Rattle.expr_lang.specs.Reading.{is_blank_of, blank_count, takes_number, words_for, allowed_for, found, number_found, word_found, token_from}
use Rattle.expr_grammar.specs.Grammar.{IsBlank, IsWord, IsAmong}

-- ---- lists

pub drop_front : (xs ys : List ℕ) → drop (length xs) (xs ++ ys) ≡ ys
drop_front [] ys = refl
drop_front (x ∷ xs) ys = drop_front xs ys

pub take_front : (xs ys : List ℕ) → take (length xs) (xs ++ ys) ≡ xs
take_front [] ys = refl
take_front (x ∷ xs) ys = ap (λ (l : List ℕ). x ∷ l) (take_front xs ys)

abbrev pub first_is : (ℕ → Bool) → List ℕ → Bool
first_is p [] = false
first_is p (b ∷ bs) = p b

-- ---- blanks

pub blank_is : (b rest : List ℕ) → IsBlank b → first_is is_blank_of rest ≡ false → blank_count (b ++ rest) ≡ length b
blank_is [] [] h f = refl
blank_is [] (r ∷ rest) h f = rw f refl
blank_is (b ∷ bs) rest h f = rw (h.0, blank_is bs rest h.1 f) refl

abbrev SplitBlank : List ℕ → ℕ → Type 0
SplitBlank bytes n = (b : List ℕ) × (rest : List ℕ) × (bytes ≡ b ++ rest) × IsBlank b × (n ≡ length b)

split_blank : (x : ℕ) (xs : List ℕ) (t : Bool) → is_blank_of x ≡ t → SplitBlank xs (blank_count xs) → SplitBlank (x ∷ xs) (cond t (suc (blank_count xs)) 0)
split_blank x xs true e h = (x ∷ h.0, h.1, ap (λ (l : List ℕ). x ∷ l) h.2, (e, h.3), ap suc h.4)
split_blank x xs false e h = ([], x ∷ xs, refl, tt, refl)

pub blanks_split : (bytes : List ℕ) → (b : List ℕ) × (rest : List ℕ) × (bytes ≡ b ++ rest) × IsBlank b × (blank_count bytes ≡ length b)
blanks_split [] = ([], [], refl, tt, refl)
blanks_split (x ∷ xs) = split_blank x xs (is_blank_of x) refl (blanks_split xs)

-- ---- lists of words

abbrev pub all_of : (Symbol → Bool) → List Symbol → Bool
all_of p [] = true
all_of p (w ∷ ws) = p w && all_of p ws

pub both : (a b : Bool) → a && b ≡ true → (a ≡ true) × (b ≡ true)
both true b e = (refl, e)
both false b e = absurd cc

pub among_all : (p : Symbol → Bool) (ws : List Symbol) (w : Symbol) → all_of p ws ≡ true → IsAmong w ws → p w ≡ true
among_all p [] w e h = absurd h
among_all p (v ∷ ws) w e (inl h) = ap p h ∙ (both (p v) (all_of p ws) e).0
among_all p (v ∷ ws) w e (inr h) = among_all p ws w (both (p v) (all_of p ws) e).1 h

-- no byte may stand where both words have these letters
abbrev pub letters_apart : ℕ → ℕ → Bool
letters_apart c d =
    cond (nat_eq c 64 || nat_eq c 36) (cond (nat_eq d 64 || nat_eq d 36) false (not (is_ascii_alphanumeric d)))
    (cond (nat_eq d 64 || nat_eq d 36) (not (is_ascii_alphanumeric c)) (not (nat_eq c d)))

-- a text that begins with the first word doesn't begin with the second, unless it is shorter or, if the first is open, an `=` follows
abbrev pub clear : Bool → List ℕ → List ℕ → Bool
clear goes_on [] [] = false
clear goes_on [] (d ∷ ds) = goes_on && nat_eq d 61
clear goes_on (c ∷ cs) [] = true
clear goes_on (c ∷ cs) (d ∷ ds) = letters_apart c d || clear goes_on cs ds

abbrev pub is_open : Symbol → Bool
is_open (symbol.Operator binary.Less) = true
is_open (symbol.Operator binary.Greater) = true
is_open _ = false

abbrev pub clear_of : Symbol → Symbol → Bool
clear_of w v = clear (is_open w) (text_of w) (text_of v)

abbrev pub pairs_clear : List Symbol → Bool
pairs_clear [] = true
pairs_clear (w ∷ ws) = all_of (λ v. clear_of w v && clear_of v w) ws && pairs_clear ws

-- a word begins with a letter that is no blank and no digit
abbrev pub dark : ℕ → Bool
dark c = not (is_blank_of c) && (not (is_ascii_digit c) && (not (nat_eq c 64) && not (nat_eq c 36)))

abbrev pub dark_of : Symbol → Bool
dark_of w = first_is dark (text_of w)

pairs_start : (p : Place) → pairs_clear (start_of p) ≡ true
unfolding start_of text_of
pairs_start place.Aggregate = refl
pairs_start place.Program = refl

pairs_operands : (p : Place) → pairs_clear (operands_of p) ≡ true
unfolding operands_of text_of
pairs_operands place.Aggregate = refl
pairs_operands place.Program = refl

pairs_items : (p : Place) → pairs_clear (items_of_place p) ≡ true
unfolding items_of_place text_of
pairs_items place.Aggregate = refl
pairs_items place.Program = refl

pairs_followers : pairs_clear followers ≡ true
unfolding followers text_of
pairs_followers = refl

pairs_marks : pairs_clear marks_of ≡ true
unfolding marks_of text_of
pairs_marks = refl

dark_start : (p : Place) → all_of dark_of (start_of p) ≡ true
unfolding start_of text_of
dark_start place.Aggregate = refl
dark_start place.Program = refl

dark_operands : (p : Place) → all_of dark_of (operands_of p) ≡ true
unfolding operands_of text_of
dark_operands place.Aggregate = refl
dark_operands place.Program = refl

dark_items : (p : Place) → all_of dark_of (items_of_place p) ≡ true
unfolding items_of_place text_of
dark_items place.Aggregate = refl
dark_items place.Program = refl

dark_followers : all_of dark_of followers ≡ true
unfolding followers text_of
dark_followers = refl

dark_marks : all_of dark_of marks_of ≡ true
unfolding marks_of text_of
dark_marks = refl

dark_bracket : all_of dark_of bracket_of ≡ true
unfolding bracket_of text_of
dark_bracket = refl

pairs_bracket : pairs_clear bracket_of ≡ true
unfolding bracket_of text_of
pairs_bracket = refl

none : (ws : List Symbol) → ws ≡ [] → (pairs_clear ws ≡ true) × (all_of dark_of ws ≡ true)
none ws e = rw e (refl, refl)

nothing_is : nothing_of ≡ []
unfolding nothing_of
nothing_is = refl

pub words_clear : (e : Expect) (p : Place) → (pairs_clear (words_for e p) ≡ true) × (all_of dark_of (words_for e p) ≡ true)
words_clear expect.Start p = (pairs_start p, dark_start p)
words_clear expect.Operand p = (pairs_operands p, dark_operands p)
words_clear expect.Item p = (pairs_items p, dark_items p)
words_clear expect.Plain p = (pairs_items p, dark_items p)
words_clear expect.Bracket p = (pairs_bracket, dark_bracket)
words_clear expect.Quote p = (pairs_marks, dark_marks)
words_clear (expect.Exponent at) p = none nothing_of nothing_is
words_clear (expect.Operator c) p = (pairs_followers, dark_followers)
words_clear expect.Comma p = (pairs_marks, dark_marks)
words_clear expect.Close p = (pairs_marks, dark_marks)
words_clear expect.More p = (pairs_marks, dark_marks)
words_clear expect.End p = none nothing_of nothing_is

-- ---- the longest word

abbrev alnum_if_wild : (x y a l e : Bool) → Type 0
alnum_if_wild x y a l e = (x || y ≡ true) → cond x a (cond y l e) ≡ true → (a ≡ true → l ≡ true) → l ≡ true

wild_alnum : (x y a l e : Bool) → alnum_if_wild x y a l e
wild_alnum true y a l e h f g = g f
wild_alnum false true a l e h f g = f
wild_alnum false false a l e h f g = absurd cc

literal : (x y a l e : Bool) → (x || y ≡ false) → cond x a (cond y l e) ≡ e
literal true y a l e h = absurd cc
literal false true a l e h = absurd cc
literal false false a l e h = refl

behind_or : (a b c : Bool) → b || c ≡ true → a || b || c ≡ true
behind_or true true c e = refl
behind_or true false c e = refl
behind_or false b c e = e

alpha_alnum : (b : ℕ) → is_ascii_alphabetic b ≡ true → is_ascii_alphanumeric b ≡ true
alpha_alnum b e = behind_or (is_ascii_digit b) _ _ e

not_true : (b : Bool) → not b ≡ true → b ≡ false
not_true true e = absurd cc
not_true false e = refl

pub same_number : (m n : ℕ) → nat_eq m n ≡ true → m ≡ n
same_number m n e = grind (arith, nat_tests)

wild_fits : (c b : ℕ) → nat_eq c 64 || nat_eq c 36 ≡ true → fits_of c b ≡ true → is_ascii_alphanumeric b ≡ true
wild_fits c b e f = wild_alnum (nat_eq c 64) (nat_eq c 36) (is_ascii_alphabetic b) (is_ascii_alphanumeric b) (nat_eq c b) e f (alpha_alnum b)

pub literal_fits : (c b : ℕ) → nat_eq c 64 || nat_eq c 36 ≡ false → fits_of c b ≡ nat_eq c b
literal_fits c b e = literal (nat_eq c 64) (nat_eq c 36) (is_ascii_alphabetic b) (is_ascii_alphanumeric b) (nat_eq c b) e

apart_by : (x y : Bool) (c d b : ℕ) → nat_eq c 64 || nat_eq c 36 ≡ x → nat_eq d 64 || nat_eq d 36 ≡ y
    → cond x (cond y false (not (is_ascii_alphanumeric d))) (cond y (not (is_ascii_alphanumeric c)) (not (nat_eq c d))) ≡ true → fits_of c b ≡ true → (t : Bool)
    → fits_of d b ≡ t → fits_of d b ≡ false
apart_by x y c d b e f h g false k = k
apart_by true true c d b e f h g true k = absurd cc
apart_by true false c d b e f h g true k =
    let same : d ≡ b = same_number d b (sym (literal_fits d b f) ∙ k) in
    let l = wild_fits c b e g in
    let m = not_true (is_ascii_alphanumeric d) h in
    absurd cc
apart_by false true c d b e f h g true k =
    let same : c ≡ b = same_number c b (sym (literal_fits c b e) ∙ g) in
    let l = wild_fits d b f k in
    let m = not_true (is_ascii_alphanumeric c) h in
    absurd cc
apart_by false false c d b e f h g true k =
    let one : c ≡ b = same_number c b (sym (literal_fits c b e) ∙ g) in
    let two : d ≡ b = same_number d b (sym (literal_fits d b f) ∙ k) in
    let m = not_true (nat_eq c d) h in
    let same : c ≡ d = cc in
    absurd (grind (arith, nat_tests))

apart : (c d b : ℕ) → letters_apart c d ≡ true → fits_of c b ≡ true → fits_of d b ≡ false
apart c d b h g = apart_by (nat_eq c 64 || nat_eq c 36) (nat_eq d 64 || nat_eq d 36) c d b refl refl h g (fits_of d b) refl

pub word_long : (t word : List ℕ) → IsWord t word → length word ≡ length t
word_long [] [] h = refl
word_long [] (b ∷ bs) h = absurd h
word_long (c ∷ cs) [] h = absurd h
word_long (c ∷ cs) (b ∷ bs) h = ap suc (word_long cs bs h.1)

front_whole : (t word rest : List ℕ) → IsWord t word → front_of t (word ++ rest) ≡ length t
front_whole [] [] rest h = refl
front_whole [] (b ∷ bs) rest h = absurd h
front_whole (c ∷ cs) [] rest h = absurd h
front_whole (c ∷ cs) (b ∷ bs) rest h = rw (h.0, front_whole cs bs rest h.1) refl

-- fewer bytes begin a word than a number, or as many, where the word is longer
abbrev Weaker : ℕ → List ℕ → List ℕ → Type 0
Weaker n u bytes = (front_of u bytes < n) ⊎ ((front_of u bytes ≡ n) × (n < length u))

weaker_step : (t : Bool) (n f m : ℕ) → ((f < n) ⊎ ((f ≡ n) × (n < m))) → (cond t (suc f) 0 < suc n) ⊎ ((cond t (suc f) 0 ≡ suc n) × (suc n < suc m))
weaker_step true n f m (inl h) = inl (omega arith)
weaker_step true n f m (inr h) = inr (omega arith, omega arith)
weaker_step false n f m h = inl (omega arith)

pub or_cases : (a b : Bool) → a || b ≡ true → (a ≡ true) ⊎ (b ≡ true)
or_cases true b e = inl refl
or_cases false b e = inr e

open_end : (g : Bool) (d : ℕ) (ds rest : List ℕ) → g && nat_eq d 61 ≡ true → (g ≡ true → first_is (nat_eq 61) rest ≡ false) → front_of (d ∷ ds) rest ≡ 0
open_end g d ds [] h look = refl
open_end g d ds (r ∷ rest) h look =
    let parts = both g (nat_eq d 61) h in
    let is : d ≡ 61 = same_number d 61 parts.1 in
    let other = look parts.0 in
    ap (λ (k : ℕ). cond (fits_of k r) (suc (front_of ds rest)) 0) is ∙ ap (λ (t : Bool). cond t (suc (front_of ds rest)) 0) other

front_weak : (g : Bool) (t u word rest : List ℕ) → IsWord t word → clear g t u ≡ true → (g ≡ true → first_is (nat_eq 61) rest ≡ false)
    → Weaker (length t) u (word ++ rest)
front_weak g [] [] word rest h c look = absurd cc
front_weak g [] (d ∷ ds) [] rest h c look = inr (open_end g d ds rest c look, omega arith)
front_weak g [] (d ∷ ds) (b ∷ bs) rest h c look = absurd h
front_weak g (c ∷ cs) [] word rest h k look = inl (omega arith)
front_weak g (c ∷ cs) (d ∷ ds) [] rest h k look = absurd h
front_weak g (c ∷ cs) (d ∷ ds) (b ∷ bs) rest h k look =
    elim (or_cases (letters_apart c d) (clear g cs ds) k) [
      | inl e ↦ inl (rw (apart c d b e h.0) (omega arith))
      | inr e ↦ weaker_step (fits_of d b) (length cs) (front_of ds (bs ++ rest)) (length ds) (front_weak g cs ds bs rest h.1 e look)
    ]

better : (best : Front) (v : Symbol) (f m : ℕ) → Front
better best v f m = cond (nat_lt best.len f || (nat_eq best.len f && nat_eq f m)) (record { len = f; symbol = cond (nat_eq f m) (Some v) None }) best

abbrev word_at : ℕ → Symbol → Front
word_at n w = record { len = n; symbol = Some w }

test_weak : (l n f m : ℕ) → ((f < n) ⊎ ((f ≡ n) × (n < m))) → l ≡ n → nat_lt l f || (nat_eq l f && nat_eq f m) ≡ false
test_weak l n f m (inl h) e = grind (arith, nat_tests)
test_weak l n f m (inr h) e = let far : nat_eq f m ≡ false = grind (arith, nat_tests) in let no : nat_lt l f ≡ false =
    grind (arith, nat_tests) in rw (no, far) (and_false (nat_eq l f))
  where
    and_false : (b : Bool) → b && false ≡ false
    and_false true = refl
    and_false false = refl

kept : (best : Front) (v : Symbol) (n : ℕ) (bytes : List ℕ) → Weaker n (text_of v) bytes → best.len ≡ n → better_of best v bytes ≡ best
kept best v n bytes h e =
    ap (λ (t : Bool). cond t (record {
      len = front_of (text_of v) bytes;
      symbol =
          cond (nat_eq (front_of (text_of v) bytes) (length (text_of v))) (Some v) None;
    }) best)
    (test_weak best.len n (front_of (text_of v) bytes) (length (text_of v)) h e)

below : (t : Bool) (best : Front) (f n : ℕ) (s : Option Symbol) → f ≤ n → best.len ≤ n → (cond t (record { len = f; symbol = s }) best).len ≤ n
below true best f n s h e = h
below false best f n s h e = e

weak_le : (n : ℕ) (u bytes : List ℕ) → Weaker n u bytes → front_of u bytes ≤ n
weak_le n u bytes (inl h) = omega arith
weak_le n u bytes (inr h) = omega arith

lower : (best : Front) (v : Symbol) (n : ℕ) (bytes : List ℕ) → Weaker n (text_of v) bytes → best.len ≤ n → (better_of best v bytes).len ≤ n
lower best v n bytes h e =
    let f = front_of (text_of v) bytes in
    below (nat_lt best.len f || (nat_eq best.len f && nat_eq f (length (text_of v)))) best f n (cond (nat_eq f (length (text_of v))) (Some v) None)
    (weak_le n (text_of v) bytes h) e

test_whole : (l n m : ℕ) → l ≤ n → n ≡ m → nat_lt l n || (nat_eq l n && nat_eq n m) ≡ true
test_whole l n m h e = by_test (nat_lt l n) refl
  where
    by_test : (t : Bool) → nat_lt l n ≡ t → t || (nat_eq l n && nat_eq n m) ≡ true
    by_test true f = refl
    by_test false f = let a : nat_eq l n ≡ true = grind (arith, nat_tests) in let b : nat_eq n m ≡ true = grind (arith, nat_tests) in rw (a, b) refl

taken : (best : Front) (w : Symbol) (bytes : List ℕ) → front_of (text_of w) bytes ≡ length (text_of w) → best.len ≤ length (text_of w)
    → better_of best w bytes ≡ word_at (length (text_of w)) w
taken best w bytes e h =
    let n = length (text_of w) in
    let same : nat_eq n n ≡ true = grind (arith, nat_tests) in
    ap (λ (f : ℕ). cond (nat_lt best.len f || (nat_eq best.len f && nat_eq f n)) (record { len = f; symbol = cond (nat_eq f n) (Some w) None }) best) e
    ∙ ap (λ (t : Bool). cond t (record { len = n; symbol = cond (nat_eq n n) (Some w) None }) best) (test_whole best.len n n h refl)
    ∙ ap (λ (t : Bool). record { len = n; symbol = cond t (Some w) None }) same

module _ (w : Symbol) (word rest : List ℕ) (fits : IsWord (text_of w) word) (look : is_open w ≡ true
    → first_is (nat_eq 61) rest ≡ false) (allowed : Allowed) where
  weak : (v : Symbol) → clear_of w v ≡ true → Weaker (length (text_of w)) (text_of v) (word ++ rest)
  weak v c = front_weak (is_open w) (text_of w) (text_of v) word rest fits c look

  longest_keeps : (best : Front) (v : Symbol) (ws : List Symbol) → all_of (λ u. clear_of w u && clear_of u w) ws ≡ true → best.len ≡ length (text_of w)
      → longest_from best allowed ws (word ++ rest) ≡ best
  longest_keeps best v [] c e = refl
  longest_keeps best v (u ∷ us) c e =
      let parts = both (clear_of w u && clear_of u w) (all_of (λ u. clear_of w u && clear_of u w) us) c in
      let one = both (clear_of w u) (clear_of u w) parts.0 in
      elim (is_allowed_of allowed u) as (λ b. longest_from (cond b (better_of best u (word ++ rest)) best) allowed us (word ++ rest) ≡ best) [
        | true ↦ ap (λ (f : Front). longest_from f allowed us (word ++ rest)) (kept best u (length (text_of w)) (word ++ rest) (weak u one.0) e)
            ∙ longest_keeps best v us parts.1 e
        | false ↦ longest_keeps best v us parts.1 e
      ]

  longest_finds : (best : Front) (ws : List Symbol) → IsAmong w ws → is_allowed_of allowed w ≡ true → pairs_clear ws ≡ true → best.len ≤ length (text_of w)
      → longest_from best allowed ws (word ++ rest) ≡ word_at (length (text_of w)) w
  longest_finds best [] h a c e = absurd h
  longest_finds best (v ∷ vs) (inl h) a c e =
      let parts = both (all_of (λ u. clear_of v u && clear_of u v) vs) (pairs_clear vs) c in
      ap (λ (u : Symbol). longest_from (cond (is_allowed_of allowed u) (better_of best u (word ++ rest)) best) allowed vs (word ++ rest)) (sym h)
      ∙ ap (λ (t : Bool). longest_from (cond t (better_of best w (word ++ rest)) best) allowed vs (word ++ rest)) a
      ∙ ap (λ (f : Front). longest_from f allowed vs (word ++ rest)) (taken best w (word ++ rest) (front_whole (text_of w) word rest fits) e)
      ∙ longest_keeps (word_at (length (text_of w)) w) w vs (subst (λ (x : Symbol). all_of (λ u. clear_of x u && clear_of u x) vs ≡ true) (sym h) parts.0) refl
  longest_finds best (v ∷ vs) (inr h) a c e =
      let parts = both (all_of (λ u. clear_of v u && clear_of u v) vs) (pairs_clear vs) c in
      let one = both (clear_of v w) (clear_of w v) (among_all (λ u. clear_of v u && clear_of u v) vs w parts.0 h) in
      elim (is_allowed_of allowed v) as (λ b. longest_from (cond b (better_of best v (word ++ rest)) best) allowed vs (word ++ rest)
      ≡ word_at (length (text_of w)) w) [
        | true ↦ longest_finds (better_of best v (word ++ rest)) vs h a parts.1 (lower best v (length (text_of w)) (word ++ rest) (weak v one.1) e)
        | false ↦ longest_finds best vs h a parts.1 e
      ]

-- what isn't an exponent is a number or a word
abbrev pub token_by : Bool → Expect → List Frame → Bool → Place → List ℕ → Result Found ℕ
token_by b e frames quoted p bytes =
    cond b (number_found (number_of bytes)) (word_found (longest_of (allowed_for e frames quoted) (words_for e p) bytes).symbol
    (longest_of (allowed_for e frames quoted) (words_for e p) bytes).len)

abbrev pub IsRaised : Expect → Type 0
IsRaised (expect.Exponent at) = Unit {0}
IsRaised _ = ⊥

pub token_is : (e : Expect) (frames : List Frame) (quoted : Bool) (p : Place) (bytes : List ℕ) → ¬ IsRaised e
    → token_from e frames quoted p bytes ≡ token_by (takes_number e && is_ascii_digit (slice_index bytes 0)) e frames quoted p bytes
unfolding token_from
token_is (expect.Exponent at) frames quoted p bytes plain = absurd (plain tt)
token_is e frames quoted p bytes plain = refl

not_raised : (e : Expect) (p : Place) (w : Symbol) → IsAmong w (words_for e p) → ¬ IsRaised e
unfolding nothing_of
not_raised (expect.Exponent at) p w h r = h
not_raised e p w h r = absurd r

dark_digit : (c b : ℕ) → dark c ≡ true → fits_of c b ≡ true → (is_ascii_digit b ≡ false) × (is_blank_of b ≡ false)
dark_digit c b h f =
    let blank = both (not (is_blank_of c)) (not (is_ascii_digit c) && (not (nat_eq c 64) && not (nat_eq c 36))) h in
    let digit = both (not (is_ascii_digit c)) (not (nat_eq c 64) && not (nat_eq c 36)) blank.1 in
    let letter = both (not (nat_eq c 64)) (not (nat_eq c 36)) digit.1 in
    let plain : nat_eq c 64 || nat_eq c 36 ≡ false = rw (not_true _ letter.0, not_true _ letter.1) refl in
    let same : c ≡ b = same_number c b (sym (literal_fits c b plain) ∙ f) in
    (ap is_ascii_digit (sym same) ∙ not_true _ digit.0, ap is_blank_of (sym same) ∙ not_true _ blank.0)

-- a word is neither blank nor a digit at its first byte
pub word_dark : (w : Symbol) (t word rest : List ℕ) → first_is dark t ≡ true → IsWord t word
    → (is_ascii_digit (slice_index (word ++ rest) 0) ≡ false) × (first_is is_blank_of (word ++ rest) ≡ false)
word_dark w [] word rest h f = absurd cc
word_dark w (c ∷ cs) [] rest h f = absurd f
word_dark w (c ∷ cs) (b ∷ bs) rest h f = dark_digit c b h f.0

and_no : (a b : Bool) → b ≡ false → a && b ≡ false
and_no true b e = e
and_no false b e = refl

-- what is written as a word that may stand there is read as it
pub word_token : (e : Expect) (frames : List Frame) (quoted : Bool) (p : Place) (w : Symbol) (word rest : List ℕ) → IsAmong w (words_for e p)
    → is_allowed_of (allowed_for e frames quoted) w ≡ true → IsWord (text_of w) word → (is_open w ≡ true → first_is (nat_eq 61) rest ≡ false)
    → token_from e frames quoted p (word ++ rest) ≡ Ok (found (token.Word w) (length word))
unfolding longest_of
word_token e frames quoted p w word rest among allowed fits look =
    let clean = words_clear e p in
    let first = word_dark w (text_of w) word rest (among_all dark_of (words_for e p) w clean.1 among) fits in
    let digit = and_no (takes_number e) (is_ascii_digit (slice_index (word ++ rest) 0)) first.0 in
    let long = longest_finds w word rest fits look (allowed_for e frames quoted) no_front (words_for e p) among allowed clean.0 (omega arith) in
    token_is e frames quoted p (word ++ rest) (not_raised e p w among)
    ∙ ap (λ (b : Bool). token_by b e frames quoted p (word ++ rest)) digit
    ∙ ap (λ (f : Front). word_found f.symbol f.len) long
    ∙ ap (λ (n : ℕ). Ok (found (token.Word w) n)) (sym (word_long (text_of w) word fits))
