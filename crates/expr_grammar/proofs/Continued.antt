-- The bytes before a fault of syntax begin a text of the grammar, or so inside a quoted text.
use Rattle.std.proofs.Common.{◌≡◌, ℕ, zero, suc, ◌+◌, ◌-◌, ◌<◌, ◌≤◌, Bool, true, false, cond, List, [], ◌∷◌, ◌++◌, length, take, drop, Option, Some, None}
use Rattle.std.proofs.Common.{Result, Ok, Err, refl, sym, ap, subst, ◌⊎◌, ◌∙◌, inl, inr, append_assoc, length-append, arith}
use Rattle.std.specs.Prelude.{◌&&◌, ◌||◌, nat_eq, nat_lt, nat_le, codes, slice_index}
use Rattle.std.specs.Char.{is_ascii_digit}
use Rattle.std.proofs.lemmas.Bool.Decides.{nat_tests}
use Rattle.expr_lang.specs.declared.tree.Place.{Place}
use Rattle.expr_lang.specs.declared.words.Symbol.{Symbol}
use Rattle.expr_lang.specs.declared.token.Allowed.{Allowed}
use Rattle.expr_lang.specs.declared.token.Front.{Front}
use Rattle.expr_lang.specs.declared.reading.Frame.{Frame}
use Rattle.expr_lang.specs.declared.reading.Expect.{Expect}
use Rattle.expr_lang.specs.declared.reading.Expect.TheVariants as expect
use Rattle.expr_lang.specs.declared.reading.Token.{Token}
use Rattle.expr_lang.specs.declared.reading.Token.TheVariants as token
use Rattle.expr_lang.specs.declared.reading.Found.{Found}
use Rattle.expr_lang.specs.declared.reading.Reader.{Reader}
use Rattle.expr_lang.specs.declared.reading.Nodes.{Nodes}
use Rattle.expr_lang.specs.Reading.{blank_count, allowed_for, words_for, takes_number, number_found, exponent_found, word_found, token_from, with_token}
use Rattle.expr_lang.specs.Reading.{nodes_reduced, ended, go_on, may_end_in, read_rest, read_text, most_words, new_reader}
use Rattle.expr_lang.specs.Token.{is_allowed_of, fits_of, front_of, better_of, longest_from, longest_of, no_front, digit_count, digits_of_front, number_of}
use Rattle.expr_lang.specs.Token.{exponent_of}
use Rattle.expr_lang.specs.Words.{text_of}
use Rattle.expr_grammar.specs.Continues.{GoesOn, EndsInQuote, GoesOnAt}
use Rattle.expr_grammar.specs.Grammar.{IsBlank, IsDigits, IsWord, IsAmong, number_value}
use Rattle.expr_grammar.proofs.Finished.{stage_text}
use Rattle.expr_grammar.proofs.Quoted.{ends_in_quote}
use Rattle.expr_grammar.proofs.Stages.{Stage, Wants, spelled_stage, expect_of, stage_frames, stage_quoted, parts_of, nests, Valid, Like, Next}
use Rattle.expr_grammar.proofs.Moves.{rd}
use Rattle.expr_grammar.proofs.Sound.{token_next}
use Rattle.expr_grammar.proofs.Steps.{read_is, read_none}
use Rattle.expr_grammar.proofs.Tokens.{IsLexeme, May, token_sound, digits_split}
use Rattle.std.proofs.lemmas.List.{length-take}
use Rattle.expr_grammar.proofs.Words.{both, blanks_split, drop_front, take_front, IsRaised, token_by, token_is, word_long}

-- ---- a word of which the front is there

-- a letter that may stand where a word has this one
abbrev filled : ℕ → ℕ
filled c = cond (nat_eq c 64 || nat_eq c 36) 97 c

filled_fits : (c : ℕ) → fits_of c (filled c) ≡ true
filled_fits c = by_test (nat_eq c 64) (nat_eq c 36) refl refl
  where
    by_test : (x y : Bool) → nat_eq c 64 ≡ x → nat_eq c 36 ≡ y → fits_of c (filled c) ≡ true
    by_test true y e f = rw e refl
    by_test false true e f = rw (e, f) refl
    by_test false false e f = let same : nat_eq c c ≡ true = grind (arith, nat_tests) in rw (e, f) same

record Fills (t bytes : List ℕ) (m : ℕ) : Type 0 where
  tail : List ℕ
  within : m ≤ length bytes
  is : IsWord t (take m bytes ++ tail)

fill_none : (t bytes : List ℕ) → Fills t bytes 0
fill_none [] bytes = record { tail = []; within = omega arith; is = tt }
fill_none (c ∷ cs) bytes = let r = fill_none cs [] in record { tail = filled c ∷ r.tail; within = omega arith; is = (filled_fits c, r.is) }

fills : (t bytes : List ℕ) → Fills t bytes (front_of t bytes)
fills [] bytes = fill_none [] bytes
fills (c ∷ cs) [] = fill_none (c ∷ cs) []
fills (c ∷ cs) (b ∷ bs) = by_test (fits_of c b) refl (fills cs bs)
  where
    by_test : (x : Bool) → fits_of c b ≡ x → Fills cs bs (front_of cs bs) → Fills (c ∷ cs) (b ∷ bs) (cond (fits_of c b) (suc (front_of cs bs)) 0)
    by_test true e r =
        subst (λ (x : Bool). Fills (c ∷ cs) (b ∷ bs) (cond x (suc (front_of cs bs)) 0)) (sym e)
        (record { tail = r.tail; within = omega (arith, r.within); is = (e, r.is) })
    by_test false e r = subst (λ (x : Bool). Fills (c ∷ cs) (b ∷ bs) (cond x (suc (front_of cs bs)) 0)) (sym e) (fill_none (c ∷ cs) (b ∷ bs))

front_most : (t bytes : List ℕ) → front_of t bytes ≤ length t
front_most [] bytes = omega arith
front_most (c ∷ cs) [] = omega arith
front_most (c ∷ cs) (b ∷ bs) = by_test (fits_of c b) (front_most cs bs)
  where
    by_test : (x : Bool) → front_of cs bs ≤ length cs → cond x (suc (front_of cs bs)) 0 ≤ length (c ∷ cs)
    by_test true h = omega arith
    by_test false h = omega arith

-- a prefix that is no word is that of a longer one
record Longer (all : List Symbol) (allowed : Allowed) (bytes : List ℕ) (n : ℕ) : Type 0 where
  word : Symbol
  among : IsAmong word all
  may : is_allowed_of allowed word ≡ true
  front : front_of (text_of word) bytes ≡ n
  more : n < length (text_of word)

abbrev Fronts : List Symbol → Allowed → List ℕ → Front → Type 0
Fronts all allowed bytes best = best.symbol ≡ None → (best.len ≡ 0) ⊎ Longer all allowed bytes best.len

some_none : (v : Symbol) → ◌≡◌ {A = Option Symbol} (Some v) None → ⊥
some_none v e = cc

better_fronts : (all : List Symbol) (allowed : Allowed) (bytes : List ℕ) (best : Front) (v : Symbol) → IsAmong v all → is_allowed_of allowed v ≡ true
    → Fronts all allowed bytes best → Fronts all allowed bytes (better_of best v bytes)
better_fronts all allowed bytes best v among may h =
    by_test (nat_lt best.len (front_of (text_of v) bytes)
    || (nat_eq best.len (front_of (text_of v) bytes) && nat_eq (front_of (text_of v) bytes) (length (text_of v))))
  where
    by_whole : (t : Bool) → nat_eq (front_of (text_of v) bytes) (length (text_of v)) ≡ t
        → Fronts all allowed bytes (record { len = front_of (text_of v) bytes; symbol = cond t (Some v) None })
    by_whole true e none = absurd (some_none v none)
    by_whole false e none =
        let most = front_most (text_of v) bytes in
        inr (record { word = v; among = among; may = may; front = refl; more = grind (arith, nat_tests) })

    by_test : (t : Bool)
        → Fronts all allowed bytes (cond t (record
        { len = front_of (text_of v) bytes; symbol = cond (nat_eq (front_of (text_of v) bytes) (length (text_of v))) (Some v) None }) best)
    by_test true = by_whole (nat_eq (front_of (text_of v) bytes) (length (text_of v))) refl
    by_test false = h

longest_fronts : (all : List Symbol) (allowed : Allowed) (bytes : List ℕ) (ws : List Symbol) (best : Front) → ((v : Symbol) → IsAmong v ws → IsAmong v all)
    → Fronts all allowed bytes best → Fronts all allowed bytes (longest_from best allowed ws bytes)
longest_fronts all allowed bytes [] best sub h = h
longest_fronts all allowed bytes (v ∷ vs) best sub h =
    (elim (is_allowed_of allowed v) as (λ t. is_allowed_of allowed v ≡ t
    → Fronts all allowed bytes (longest_from (cond t (better_of best v bytes) best) allowed vs bytes)) [
      | true ↦ λ e. longest_fronts all allowed bytes vs (better_of best v bytes) (λ u g. sub u (inr g))
          (better_fronts all allowed bytes best v (sub v (inl refl)) e h)
      | false ↦ λ e. longest_fronts all allowed bytes vs best (λ u g. sub u (inr g)) h
    ]) refl

-- ---- a token of which the front is there

pub record Begun (e : Expect) (frames : List Frame) (quoted : Bool) (p : Place) (bytes : List ℕ) (n : ℕ) : Type 0 where
  pub begun : Token
  pub tail : List ℕ
  pub within : n ≤ length bytes
  pub may : May e frames quoted p begun
  pub is : IsLexeme begun (take n bytes ++ tail)
  pub more : 1 ≤ length tail

exponent_err : (bytes : List ℕ) (n : ℕ) → exponent_of bytes ≡ Err n → n ≡ 0
unfolding exponent_of
exponent_err bytes n h =
    by_tests (nat_eq (digit_count 2 bytes) 0) (nat_le (digits_of_front 2 bytes) 64) (digits_of_front 2 bytes, digit_count 2 bytes) (
      slice_index bytes 0 - 48,
      1,
    ) h
  where
    by_tests : (a b : Bool) (x y : ℕ × ℕ) → cond {A = Result (ℕ × ℕ) ℕ} a (Err 0) (cond b (Ok x) (Ok y)) ≡ Err n → n ≡ 0
    by_tests true b x y e = cc
    by_tests false true x y e = absurd cc
    by_tests false false x y e = absurd cc

-- digits, and a point after them
record Pointed (bytes : List ℕ) (n : ℕ) : Type 0 where
  digits : List ℕ
  rest : List ℕ
  are : IsDigits digits
  some : 1 ≤ length digits
  few : length digits ≤ 12
  same : bytes ≡ digits ++ (46 ∷ rest)
  count : n ≡ length digits + 1

number_by : (w q d n : ℕ) (x y : ℕ × ℕ) (a b c : Bool) → nat_eq w 0 ≡ a → nat_eq q 46 ≡ b → nat_eq d 0 ≡ c
    → cond {A = Result (ℕ × ℕ) ℕ} a (Err 0) (cond b (cond c (Err (w + 1)) (Ok x)) (Ok y)) ≡ Err n → (n ≡ 0) ⊎ ((1 ≤ w) × (q ≡ 46) × (n ≡ w + 1))
number_by w q d n x y true b c e f g h = inl (cc)
number_by w q d n x y false true true e f g h = let k : n ≡ w + 1 = cc in inr (grind (arith, nat_tests), grind (arith, nat_tests), k)
number_by w q d n x y false true false e f g h = absurd cc
number_by w q d n x y false false c e f g h = absurd cc

index_front : (ds rest : List ℕ) → slice_index (ds ++ rest) (length ds) ≡ slice_index rest 0
index_front [] rest = refl
index_front (d ∷ ds) rest = index_front ds rest

first_point : (l : List ℕ) → slice_index l 0 ≡ 46 → (rest : List ℕ) × (l ≡ 46 ∷ rest)
first_point [] e = absurd (omega arith)
first_point (x ∷ xs) e = (xs, ap (λ (k : ℕ). k ∷ xs) e)

number_err : (bytes : List ℕ) (n : ℕ) → number_of bytes ≡ Err n → (n ≡ 0) ⊎ Pointed bytes n
unfolding number_of
number_err bytes n h =
    let w = digit_count 12 bytes in
    let d = digit_count 6 (drop (w + 1) bytes) in
    let s = digits_split 12 bytes in
    elim (number_by w (slice_index bytes w) d n _ _ (nat_eq w 0) (nat_eq (slice_index bytes w) 46) (nat_eq d 0) refl refl refl h) [
      | inl e ↦ inl e
      | inr g ↦
          let point : slice_index s.1 0 ≡ 46 = sym (index_front s.0 s.1) ∙ ap (λ (l : List ℕ). slice_index l (length s.0)) (sym s.2)
          ∙ ap (slice_index bytes) (sym s.4) ∙ g.1 in
          let r = first_point s.1 point in
          inr (record {
            digits = s.0;
            rest = r.0;
            are = s.3;
            some = omega (arith, g.0, s.4);
            few = s.5;
            same = s.2 ∙ ap (λ (l : List ℕ). s.0 ++ l) r.1;
            count =
                omega (arith, g.2, s.4);
          })
    ]

take_past : (ds rest : List ℕ) (x n : ℕ) → n ≡ length ds + 1 → take n (ds ++ (x ∷ rest)) ≡ ds ++ (x ∷ [])
take_past ds rest x n e = ap (λ (k : ℕ). take k (ds ++ (x ∷ rest))) (e ∙ as_suc (length ds)) ∙ past ds
  where
    as_suc : (k : ℕ) → k + 1 ≡ suc k
    as_suc k = omega arith

    past : (ds : List ℕ) → take (suc (length ds)) (ds ++ (x ∷ rest)) ≡ ds ++ (x ∷ [])
    past [] = refl
    past (d ∷ ds) = ap (λ (l : List ℕ). d ∷ l) (past ds)

number_begun : (e : Expect) (frames : List Frame) (quoted : Bool) (p : Place) (bytes : List ℕ) (n : ℕ) → takes_number e ≡ true → ¬ IsRaised e → Pointed bytes n
    → Begun e frames quoted p bytes n
number_begun e frames quoted p bytes n takes plain h =
    let ds = h.digits in
    let front : take n bytes ≡ ds ++ (46 ∷ []) = ap (take n) h.same ∙ take_past ds h.rest 46 n h.count in
    record {
      begun = token.Number (number_value ds (codes "0"));
      tail = codes "0";
      within = omega (arith, ap length h.same, length-append ds (46 ∷ h.rest), h.count);
      may = (takes, plain);
      is = (
        ds,
        codes "0",
        ap (λ (l : List ℕ). l ++ codes "0") front ∙ append_assoc ds (46 ∷ []) (codes "0"),
        record { some = h.some; few = h.few; whole = h.are; short = omega arith; part = (refl, tt) },
        refl,
      );
      more = omega arith;
    }

word_err : (o : Option Symbol) (len n : ℕ) → word_found o len ≡ Err n → (o ≡ None) × (len ≡ n)
word_err None len n e = (refl, cc)
word_err (Some w) len n e = absurd cc

number_found_err : (r : Result (ℕ × ℕ) ℕ) (n : ℕ) → number_found r ≡ Err n → r ≡ Err n
number_found_err (Ok x) n e = absurd cc
number_found_err (Err m) n e = let k : m ≡ n = cc in ap (λ (x : ℕ). Err x) k

exponent_found_err : (r : Result (ℕ × ℕ) ℕ) (n : ℕ) → exponent_found r ≡ Err n → r ≡ Err n
exponent_found_err (Ok x) n e = absurd cc
exponent_found_err (Err m) n e = let k : m ≡ n = cc in ap (λ (x : ℕ). Err x) k

word_begun : (e : Expect) (frames : List Frame) (quoted : Bool) (p : Place) (bytes : List ℕ) (n : ℕ)
    → Longer (words_for e p) (allowed_for e frames quoted) bytes n → 1 ≤ n → Begun e frames quoted p bytes n
word_begun e frames quoted p bytes n h some =
    let r = subst (Fills (text_of h.word) bytes) h.front (fills (text_of h.word) bytes) in
    let long = word_long (text_of h.word) (take n bytes ++ r.tail) r.is in
    record {
      begun = token.Word h.word;
      tail = r.tail;
      within = r.within;
      may = (h.among, h.may);
      is = r.is;
      more = omega (arith, long, h.more, length-append (take n bytes) r.tail, length-take n bytes);
    }

none_or : (n : ℕ) → (n ≡ 0) ⊎ (1 ≤ n)
none_or zero = inl refl
none_or (suc n) = inr (omega arith)

raised_or : (e : Expect) → IsRaised e ⊎ ¬ IsRaised e
raised_or (expect.Exponent at) = inl tt
raised_or e = inr (λ h. h)

raised_err : (e : Expect) (frames : List Frame) (quoted : Bool) (p : Place) (bytes : List ℕ) (n : ℕ) → IsRaised e → token_from e frames quoted p bytes ≡ Err n
    → n ≡ 0
unfolding token_from
raised_err (expect.Exponent at) frames quoted p bytes n h e = exponent_err bytes n (exponent_found_err (exponent_of bytes) n e)
raised_err e frames quoted p bytes n h g = absurd h

longest_err : (e : Expect) (frames : List Frame) (quoted : Bool) (p : Place) (bytes : List ℕ)
    → Fronts (words_for e p) (allowed_for e frames quoted) bytes (longest_of (allowed_for e frames quoted) (words_for e p) bytes)
unfolding longest_of
longest_err e frames quoted p bytes = longest_fronts (words_for e p) (allowed_for e frames quoted) bytes (words_for e p) no_front (λ v h. h) (λ none. inl refl)

plain_err : (e : Expect) (frames : List Frame) (quoted : Bool) (p : Place) (bytes : List ℕ) (n : ℕ) → ¬ IsRaised e → (b : Bool)
    → takes_number e && is_ascii_digit (slice_index bytes 0) ≡ b → token_by b e frames quoted p bytes ≡ Err n → (n ≡ 0) ⊎ Begun e frames quoted p bytes n
plain_err e frames quoted p bytes n plain true f h =
    elim (number_err bytes n (number_found_err (number_of bytes) n h)) [
      | inl g ↦ inl g
      | inr g ↦ inr (number_begun e frames quoted p bytes n (both (takes_number e) (is_ascii_digit (slice_index bytes 0)) f).0 plain g)
    ]
plain_err e frames quoted p bytes n plain false f h =
    let front = longest_of (allowed_for e frames quoted) (words_for e p) bytes in
    let w = word_err front.symbol front.len n h in
    elim (longest_err e frames quoted p bytes w.0) [
      | inl g ↦ inl (sym w.1 ∙ g)
      | inr g ↦ elim (none_or n) [
        | inl k ↦ inl k
        | inr k ↦ inr (word_begun e frames quoted p bytes n (subst (Longer (words_for e p) (allowed_for e frames quoted) bytes) w.1 g) k)
      ]
    ]

pub token_begun : (e : Expect) (frames : List Frame) (quoted : Bool) (p : Place) (bytes : List ℕ) (n : ℕ) → token_from e frames quoted p bytes ≡ Err n
    → (n ≡ 0) ⊎ Begun e frames quoted p bytes n
token_begun e frames quoted p bytes n h =
    elim (raised_or e) [
      | inl r ↦ inl (raised_err e frames quoted p bytes n r h)
      | inr plain ↦ plain_err e frames quoted p bytes n plain (takes_number e && is_ascii_digit (slice_index bytes 0)) refl
          (sym (token_is e frames quoted p bytes plain) ∙ h)
    ]

-- ---- the reader

pub next_of : (p : Place) (s : Stage) (r : Reader) (at : ℕ) (b : List ℕ) (t : Token) (lexeme : List ℕ) → Like s r → Valid p s → IsBlank b
    → May r.expect r.frames r.quoted p t → IsLexeme t lexeme → Next p s (with_token r at t) b lexeme
next_of p s r at b t lexeme like v blank may is =
    let e : r ≡ rd (expect_of s) (stage_frames s) r.nodes r.opened r.crowded (stage_quoted s) =
    ap (λ (x : Expect). rd x r.frames r.nodes r.opened r.crowded r.quoted) like.expect
    ∙ ap (λ (x : List Frame). rd (expect_of s) x r.nodes r.opened r.crowded r.quoted) like.frames
    ∙ ap (λ (x : Bool). rd (expect_of s) (stage_frames s) r.nodes r.opened r.crowded x) like.quoted in
    let may' : May (expect_of s) (stage_frames s) (stage_quoted s) p t = subst (λ (x : Reader). May x.expect x.frames x.quoted p t) e may in
    subst (λ (x : Reader). Next p s (with_token x at t) b lexeme) (sym e) (token_next p r.nodes r.opened r.crowded at b blank s t lexeme v may' is)

module _ (p : Place) where
  -- what was read is spelled so
  abbrev pub Spelled : Stage → List ℕ → Type 0
  Spelled s before = (rest : List ℕ) → before ++ rest ≡ spelled_stage s rest

  -- these bytes begin a text, or end in a quoted one
  abbrev Reaches : List ℕ → Type 0
  Reaches before = GoesOn p before ⊎ EndsInQuote p before

  -- what is read begins a text, or ends in a quoted one, where a piece of it and then its tail come after what was read before
  stage_goes : (s x : Stage) (before piece tail w : List ℕ) → IsBlank w → Valid p x → (nests x ≡ true → parts_of x ≡ parts_of s) → Spelled s before
      → ((rest : List ℕ) → before ++ (piece ++ (tail ++ rest)) ≡ spelled_stage x (w ++ rest)) → Reaches (before ++ piece)
  stage_goes s x before piece tail w blank v same spell next =
      (elim (nests x) as (λ t. nests x ≡ t → Reaches (before ++ piece)) [
        | true ↦ λ e. inr (ends_in_quote p s x before piece tail w blank (same e) spell next v e)
        | false ↦ λ e.
            let f = stage_text p x w blank v e in
            inl (tail ++ f.0, f.1, (f.3, f.2, f.4, append_assoc before piece (tail ++ f.0) ∙ next f.0 ∙ f.5))
      ]) refl

  -- where blanks follow
  blanks_go_on : (s : Stage) (before b : List ℕ) → Valid p s → Spelled s before → IsBlank b → Reaches (before ++ b)
  blanks_go_on s before b v spell blank = stage_goes s s before b [] b blank v (λ e. refl) spell (λ rest. spell (b ++ rest))

  -- where blanks and the front of a token follow
  front_goes_on : (s : Stage) (r : Reader) (at : ℕ) (before b bytes : List ℕ) (n : ℕ) → Like s r → Valid p s → Spelled s before → IsBlank b
      → Begun r.expect r.frames r.quoted p bytes n → Reaches (before ++ (b ++ take n bytes))
  front_goes_on s r at before b bytes n like v spell blank g =
      let word = take n bytes in
      let x = next_of p s r at b g.begun (word ++ g.tail) like v blank g.may g.is in
      stage_goes s x.stage before (b ++ word) g.tail [] tt x.valid x.kept spell (λ rest.
      ap (λ (l : List ℕ). before ++ l)
      (append_assoc b word (g.tail ++ rest) ∙ ap (λ (l : List ℕ). b ++ l) (sym (append_assoc word g.tail rest)))
      ∙ spell (b ++ ((word ++ g.tail) ++ rest)) ∙ x.spell rest)

  -- the place of a fault, and the bytes before it
  record Stops (before bytes : List ℕ) (e : ℕ) : Type 0 where
    far : ℕ
    at : e ≡ length before + far
    within : far ≤ length bytes
    goes : Reaches (before ++ take far bytes)

  abbrev Faults : ℕ → Type 0
  Faults n = (s : Stage) (r : Reader) (at : ℕ) (before bytes : List ℕ) (e : ℕ) → Like s r → Valid p s → Spelled s before → at ≡ length before
      → read_rest p n r at bytes ≡ Err e → Stops before bytes e

  err_is : (a b : ℕ) → ◌≡◌ {A = Result Nodes ℕ} (Err a) (Err b) → a ≡ b
  err_is a b e = cc

  ended_err : (t : Bool) (nodes : Nodes) (at e : ℕ) → cond {A = Result Nodes ℕ} t (Ok nodes) (Err at) ≡ Err e → at ≡ e
  ended_err true nodes at e h = absurd cc
  ended_err false nodes at e h = cc

  -- at the end of the blanks
  stops_blank : (s : Stage) (r : Reader) (before b rest : List ℕ) (e : ℕ) → Like s r → Valid p s → Spelled s before → IsBlank b → e ≡ length before + length b
      → Stops before (b ++ rest) e
  stops_blank s r before b rest e like v spell blank is = record {
    far = length b;
    at = is;
    within = omega (arith, length-append b rest);
    goes = subst (λ (l : List ℕ). Reaches (before ++ l)) (sym (take_front b rest)) (blanks_go_on s before b v spell blank);
  }

  take_both : (xs ys : List ℕ) (n : ℕ) → take (length xs + n) (xs ++ ys) ≡ xs ++ take n ys
  take_both [] ys n = let e : 0 + n ≡ n = omega arith in ap (λ (k : ℕ). take k ys) e
  take_both (x ∷ xs) ys n = let e : suc (length xs) + n ≡ suc (length xs + n) = omega arith in ap (λ (k : ℕ). take k (x ∷ (xs ++ ys))) e
      ∙ ap (λ (l : List ℕ). x ∷ l) (take_both xs ys n)

  go_stops : (n : ℕ) → Faults n → (s : Stage) (r : Reader) (at : ℕ) (before b rest : List ℕ) (e : ℕ) (f : Result Found ℕ) → Like s r → Valid p s
      → Spelled s before → IsBlank b → at ≡ length before + length b → token_from r.expect r.frames r.quoted p rest ≡ f
      → go_on (read_rest p n) r at rest f ≡ Err e → Stops before (b ++ rest) e
  go_stops n ih s r at before b rest e (Err m) like v spell blank here found done =
      let is : at + m ≡ e = err_is (at + m) e done in
      elim (token_begun r.expect r.frames r.quoted p rest m found) [
        | inl z ↦ stops_blank s r before b rest e like v spell blank (omega arith)
        | inr g ↦ record {
          far = length b + m;
          at = omega arith;
          within = omega (arith, length-append b rest, g.within);
          goes = subst (λ (l : List ℕ). Reaches (before ++ l)) (sym (take_both b rest m)) (front_goes_on s r at before b rest m like v spell blank g);
        }
      ]
  go_stops n ih s r at before b rest e (Ok f) like v spell blank here found done =
      let t = token_sound r.expect r.frames r.quoted p rest f found in
      let x = next_of p s r at b f.token t.0 like v blank t.5 t.3 in
      let beyond : drop f.len rest ≡ t.1 = ap (λ (k : ℕ). drop k rest) t.4 ∙ ap (drop (length t.0)) t.2 ∙ drop_front t.0 t.1 in
      let word = b ++ t.0 in
      let now = before ++ word in
      let so : Spelled x.stage now = λ rest. append_assoc before word rest ∙ ap (λ (l : List ℕ). before ++ l) (append_assoc b t.0 rest)
      ∙ spell (b ++ (t.0 ++ rest)) ∙ x.spell rest in
      let long : length now ≡ length before + (length b + length t.0) = omega (arith, length-append before word, length-append b t.0) in
      let z =
      ih x.stage (with_token r at f.token) (at + f.len) now t.1 e x.like x.valid so (omega (arith, t.4))
      (ap (read_rest p n (with_token r at f.token) (at + f.len)) (sym beyond) ∙ done) in
      let all : b ++ rest ≡ word ++ t.1 = ap (λ (l : List ℕ). b ++ l) t.2 ∙ sym (append_assoc b t.0 t.1) in
      record {
        far = length word + z.far;
        at = omega (arith, z.at, length-append b t.0);
        within = omega (arith, z.within, ap length all, length-append word t.1);
        goes =
            subst (λ (l : List ℕ). Reaches l) (append_assoc before word (take z.far t.1)
            ∙ ap (λ (l : List ℕ). before ++ l) (sym (ap (take (length word + z.far)) all ∙ take_both word t.1 z.far))) z.goes;
      }

  length_none : (l : List ℕ) → nat_eq (length l) 0 ≡ true → l ≡ []
  length_none [] e = refl
  length_none (x ∷ xs) e = absurd (grind (arith, nat_tests))

  faults : (n : ℕ) → Faults n
  faults zero s r at before bytes e like v spell here done =
      stops_blank s r before [] bytes e like v spell tt (omega (arith, err_is at e (sym (read_none p r at bytes) ∙ done)))
  faults (suc n) s r at before bytes e like v spell here done =
      let b = blanks_split bytes in
      let rest : drop (blank_count bytes) bytes ≡ b.1 = ap (λ (k : ℕ). drop k bytes) b.4 ∙ ap (drop (length b.0)) b.2 ∙ drop_front b.0 b.1 in
      let read : cond (nat_eq (length b.1) 0) (ended r (at + blank_count bytes))
      (go_on (read_rest p n) r (at + blank_count bytes) b.1 (token_from r.expect r.frames r.quoted p b.1)) ≡ Err e =
      ap (λ (l : List ℕ). cond (nat_eq (length l) 0) (ended r (at + blank_count bytes))
      (go_on (read_rest p n) r (at + blank_count bytes) l (token_from r.expect r.frames r.quoted p l))) (sym rest) ∙ sym (read_is p n r at bytes) ∙ done in
      let there : at + blank_count bytes ≡ length before + length b.0 = omega (arith, b.4) in
      subst (λ (l : List ℕ). Stops before l e) (sym b.2)
      ((elim (nat_eq (length b.1) 0) as (λ t. nat_eq (length b.1) 0 ≡ t
      → cond t (ended r (at + blank_count bytes)) (go_on (read_rest p n) r (at + blank_count bytes) b.1 (token_from r.expect r.frames r.quoted p b.1))
      ≡ Err e → Stops before (b.0 ++ b.1) e) [
        | true ↦ λ f g. stops_blank s r before b.0 b.1 e like v spell b.3
            (omega (
              arith,
              ended_err (may_end_in r.expect r.frames) (record { nodes = nodes_reduced 1 r.frames r.nodes; crowded = r.crowded })
                  (at + blank_count bytes) e g,
            ))
        | false ↦ λ f g. go_stops n (faults n) s r (at + blank_count bytes) before b.0 b.1 e (token_from r.expect r.frames r.quoted p b.1) like v spell b.3
            there refl g
      ]) refl read)

  -- the bytes before the place at which a text can't be read on
  pub text_stops : (text : List ℕ) (e : ℕ) → read_text p text ≡ Err e → GoesOnAt p text e
  unfolding read_text
  text_stops text e h =
      let z = faults most_words (Wants []) new_reader 0 [] text e (record { expect = refl; frames = refl; quoted = refl }) tt (λ rest. refl) refl h in
      let same : z.far ≡ e = omega (arith, z.at) in
      (omega (arith, z.within), subst (λ (k : ℕ). Reaches (take k text)) same z.goes)
