-- What is read of a text depends on the bytes up to the place that is reached, and on one more.
use Rattle.std.proofs.Common.{◌≡◌, ℕ, zero, suc, ◌+◌, ◌-◌, ◌*◌, ◌^◌, ◌<◌, ◌≤◌, Bool, true, false, cond, List, [], ◌∷◌, ◌++◌, length, take, drop, Option}
use Rattle.std.proofs.Common.{Some, None, Result, Ok, Err, refl, sym, ap, subst, ◌⊎◌, ◌∙◌, inl, inr, arith}
use Rattle.std.specs.Prelude.{◌&&◌, ◌||◌, nat_eq, nat_lt, nat_le, slice_index}
use Rattle.std.specs.Char.{is_ascii_digit}
use Rattle.std.specs.Str.Parse.{digits_value}
use Rattle.std.proofs.lemmas.Bool.{cases_lt}
use Rattle.std.proofs.lemmas.Bool.Decides.{nat_tests}
use Rattle.std.proofs.lemmas.List.{length-drop, take_all, length-take}
use Rattle.expr_lang.specs.declared.tree.Place.{Place}
use Rattle.expr_lang.specs.declared.words.Symbol.{Symbol}
use Rattle.expr_lang.specs.declared.token.Allowed.{Allowed}
use Rattle.expr_lang.specs.declared.token.Front.{Front}
use Rattle.expr_lang.specs.declared.reading.Frame.{Frame}
use Rattle.expr_lang.specs.declared.reading.Expect.{Expect}
use Rattle.expr_lang.specs.declared.reading.Expect.TheVariants as expect
use Rattle.expr_lang.specs.declared.reading.Found.{Found}
use Rattle.expr_lang.specs.declared.reading.Reader.{Reader}
use Rattle.expr_lang.specs.declared.reading.Nodes.{Nodes}
use Rattle.expr_lang.specs.declared.fault.ExprFault.{ExprFault}
use Rattle.expr_lang.specs.declared.fault.ExprFault.TheVariants as fault
use Rattle.expr_lang.specs.declared.tree.Sort.{Sort}
use Rattle.expr_lang.specs.Parse.{cut_short, nodes_of_text, brackets_judged, judged_text}
use Rattle.expr_lang.specs.Survey.{survey_of, misfit_of}
use Rattle.expr_lang.specs.Words.{text_of}
use Rattle.expr_lang.specs.Token.{is_allowed_of, fits_of, front_of, better_of, longest_from, no_front, longest_of, digit_count, digits_of_front, number_of}
use Rattle.expr_lang.specs.Token.{exponent_of}
use Rattle.expr_lang.specs.Reading.{is_blank_of, blank_count, takes_number, words_for, allowed_for, number_found, exponent_found, word_found, token_from}
use Rattle.expr_lang.specs.Reading.{with_token, ended, go_on, read_rest, most_words, read_text, new_reader}

-- both texts have n bytes, and these are the same
abbrev pub Agrees : ℕ → List ℕ → List ℕ → Type 0
Agrees zero xs ys = Unit {0}
Agrees (suc n) [] ys = ⊥
Agrees (suc n) (x ∷ xs) [] = ⊥
Agrees (suc n) (x ∷ xs) (y ∷ ys) = (x ≡ y) × Agrees n xs ys

agrees_less : (m n : ℕ) (xs ys : List ℕ) → m ≤ n → Agrees n xs ys → Agrees m xs ys
agrees_less zero n xs ys le h = tt
agrees_less (suc m) zero xs ys le h = absurd (omega arith)
agrees_less (suc m) (suc n) [] ys le h = absurd h
agrees_less (suc m) (suc n) (x ∷ xs) [] le h = absurd h
agrees_less (suc m) (suc n) (x ∷ xs) (y ∷ ys) le h = (h.0, agrees_less m n xs ys (omega arith) h.1)

agrees_drop : (k n : ℕ) (xs ys : List ℕ) → Agrees (k + n) xs ys → Agrees n (drop k xs) (drop k ys)
agrees_drop zero n xs ys h = let e : zero + n ≡ n = omega arith in subst (λ (m : ℕ). Agrees m xs ys) e h
agrees_drop (suc k) n [] ys h = let e : suc k + n ≡ suc (k + n) = omega arith in absurd (subst (λ (m : ℕ). Agrees m [] ys) e h)
agrees_drop (suc k) n (x ∷ xs) [] h = let e : suc k + n ≡ suc (k + n) = omega arith in absurd (subst (λ (m : ℕ). Agrees m (x ∷ xs) []) e h)
agrees_drop (suc k) n (x ∷ xs) (y ∷ ys) h =
    let e : suc k + n ≡ suc (k + n) = omega arith in
    agrees_drop k n xs ys (subst (λ (m : ℕ). Agrees m (x ∷ xs) (y ∷ ys)) e h).1

pub agrees_taken : (n : ℕ) (xs more : List ℕ) → n ≤ length xs → Agrees n xs (take n xs ++ more)
agrees_taken zero xs more le = tt
agrees_taken (suc n) [] more le = absurd (omega arith)
agrees_taken (suc n) (x ∷ xs) more le = (refl, agrees_taken n xs more (omega arith))

agrees_take : (n k : ℕ) (xs ys : List ℕ) → k ≤ n → Agrees n xs ys → take k xs ≡ take k ys
agrees_take n zero xs ys le h = refl
agrees_take zero (suc k) xs ys le h = absurd (omega arith)
agrees_take (suc n) (suc k) [] ys le h = absurd h
agrees_take (suc n) (suc k) (x ∷ xs) [] le h = absurd h
agrees_take (suc n) (suc k) (x ∷ xs) (y ∷ ys) le h =
    ap (λ (z : ℕ). z ∷ take k xs) h.0 ∙ ap (λ (zs : List ℕ). y ∷ zs) (agrees_take n k xs ys (omega arith) h.1)

agrees_at : (n k : ℕ) (xs ys : List ℕ) → k < n → Agrees n xs ys → slice_index xs k ≡ slice_index ys k
agrees_at zero k xs ys lt h = absurd (omega arith)
agrees_at (suc n) k [] ys lt h = absurd h
agrees_at (suc n) k (x ∷ xs) [] lt h = absurd h
agrees_at (suc n) zero (x ∷ xs) (y ∷ ys) lt h = h.0
agrees_at (suc n) (suc k) (x ∷ xs) (y ∷ ys) lt h = agrees_at n k xs ys (omega arith) h.1

agrees_some : (n : ℕ) (xs ys : List ℕ) → Agrees (suc n) xs ys → 0 < length ys
agrees_some n [] ys h = absurd h
agrees_some n (x ∷ xs) [] h = absurd h
agrees_some n (x ∷ xs) (y ∷ ys) h = omega arith

-- ---- words

front_step : (b : Bool) (cs xs ys : List ℕ) (n : ℕ) → ((m : ℕ) → front_of cs xs ≤ m → Agrees (suc m) xs ys → front_of cs ys ≡ front_of cs xs)
    → cond b (suc (front_of cs xs)) 0 ≤ n → Agrees n xs ys → cond b (suc (front_of cs ys)) 0 ≡ cond b (suc (front_of cs xs)) 0
front_step true cs xs ys zero same le h = absurd (omega arith)
front_step true cs xs ys (suc m) same le h = ap suc (same m (omega arith) h)
front_step false cs xs ys n same le h = refl

front_same : (word xs ys : List ℕ) (n : ℕ) → front_of word xs ≤ n → Agrees (suc n) xs ys → front_of word ys ≡ front_of word xs
front_same [] xs ys n le h = refl
front_same (c ∷ cs) [] ys n le h = absurd h
front_same (c ∷ cs) (x ∷ xs) [] n le h = absurd h
front_same (c ∷ cs) (x ∷ xs) (y ∷ ys) n le h =
    ap (λ (z : ℕ). cond (fits_of c z) (suc (front_of cs ys)) 0) (sym h.0) ∙ front_step (fits_of c x) cs xs ys n (λ m. front_same cs xs ys m) le h.1

better_at_least : (best : Front) (word : Symbol) (bytes : List ℕ)
    → (best.len ≤ (better_of best word bytes).len) × (front_of (text_of word) bytes ≤ (better_of best word bytes).len)
better_at_least best word bytes =
    by_test (nat_lt best.len (front_of (text_of word) bytes)
    || (nat_eq best.len (front_of (text_of word) bytes) && nat_eq (front_of (text_of word) bytes) (length (text_of word)))) refl
  where
    by_test : (b : Bool)
        → (nat_lt best.len (front_of (text_of word) bytes)
        || (nat_eq best.len (front_of (text_of word) bytes) && nat_eq (front_of (text_of word) bytes) (length (text_of word)))) ≡ b
        → (best.len ≤ (better_of best word bytes).len) × (front_of (text_of word) bytes ≤ (better_of best word bytes).len)
    by_test true e = rw e (grind (arith, nat_tests), omega arith)
    by_test false e = rw e (omega arith, grind (arith, nat_tests))

better_same : (best : Front) (word : Symbol) (xs ys : List ℕ) → front_of (text_of word) ys ≡ front_of (text_of word) xs
    → better_of best word ys ≡ better_of best word xs
better_same best word xs ys e = rw e refl

longest_grows : (best : Front) (allowed : Allowed) (words : List Symbol) (bytes : List ℕ) → best.len ≤ (longest_from best allowed words bytes).len
longest_grows best allowed [] bytes = omega arith
longest_grows best allowed (w ∷ ws) bytes =
    elim (is_allowed_of allowed w) as (λ b. best.len ≤ (longest_from (cond b (better_of best w bytes) best) allowed ws bytes).len) [
      | true ↦ omega (arith, (better_at_least best w bytes).0, longest_grows (better_of best w bytes) allowed ws bytes)
      | false ↦ longest_grows best allowed ws bytes
    ]

longest_same : (best : Front) (allowed : Allowed) (words : List Symbol) (xs ys : List ℕ) (n : ℕ) → (longest_from best allowed words xs).len ≤ n
    → Agrees (suc n) xs ys → longest_from best allowed words ys ≡ longest_from best allowed words xs
longest_same best allowed [] xs ys n le h = refl
longest_same best allowed (w ∷ ws) xs ys n le h =
    (elim (is_allowed_of allowed w) as (λ b. (longest_from (cond b (better_of best w xs) best) allowed ws xs).len ≤ n
    → longest_from (cond b (better_of best w ys) best) allowed ws ys ≡ longest_from (cond b (better_of best w xs) best) allowed ws xs) [
      | true ↦ λ le'.
          let same =
          better_same best w xs ys (front_same (text_of w) xs ys n
          (omega (arith, le', (better_at_least best w xs).1, longest_grows (better_of best w xs) allowed ws xs)) h) in
          ap (λ (f : Front). longest_from f allowed ws ys) same ∙ longest_same (better_of best w xs) allowed ws xs ys n le' h
      | false ↦ λ le'. longest_same best allowed ws xs ys n le' h
    ]) le

-- ---- digits

count_step : (b : Bool) (m : ℕ) (xs ys : List ℕ) (n : ℕ) → ((k : ℕ) → digit_count m xs ≤ k → Agrees (suc k) xs ys → digit_count m ys ≡ digit_count m xs)
    → cond b (suc (digit_count m xs)) 0 ≤ n → Agrees n xs ys → cond b (suc (digit_count m ys)) 0 ≡ cond b (suc (digit_count m xs)) 0
count_step true m xs ys zero same le h = absurd (omega arith)
count_step true m xs ys (suc k) same le h = ap suc (same k (omega arith) h)
count_step false m xs ys n same le h = refl

count_same : (m : ℕ) (xs ys : List ℕ) (n : ℕ) → digit_count m xs ≤ n → Agrees (suc n) xs ys → digit_count m ys ≡ digit_count m xs
count_same zero xs ys n le h = refl
count_same (suc m) [] ys n le h = absurd h
count_same (suc m) (x ∷ xs) [] n le h = absurd h
count_same (suc m) (x ∷ xs) (y ∷ ys) n le h =
    ap (λ (z : ℕ). cond (is_ascii_digit z) (suc (digit_count m ys)) 0) (sym h.0) ∙ count_step (is_ascii_digit x) m xs ys n (λ k. count_same m xs ys k) le h.1

count_first : (m : ℕ) (xs ys : List ℕ) → Agrees m xs ys → digit_count m ys ≡ digit_count m xs
count_first zero xs ys h = refl
count_first (suc m) [] ys h = absurd h
count_first (suc m) (x ∷ xs) [] h = absurd h
count_first (suc m) (x ∷ xs) (y ∷ ys) h =
    ap (λ (z : ℕ). cond (is_ascii_digit z) (suc (digit_count m ys)) 0) (sym h.0) ∙ ap (λ (k : ℕ). cond (is_ascii_digit x) (suc k) 0) (count_first m xs ys h.1)

count_most : (m : ℕ) (xs : List ℕ) → digit_count m xs ≤ m
count_most zero xs = omega arith
count_most (suc m) [] = omega arith
count_most (suc m) (x ∷ xs) =
    elim (is_ascii_digit x) as (λ b. cond b (suc (digit_count m xs)) 0 ≤ suc m) [ true ↦ omega (arith, count_most m xs) | false ↦ omega arith ]

value_same : (m : ℕ) (xs ys : List ℕ) (n : ℕ) → digit_count m xs ≤ n → digit_count m ys ≡ digit_count m xs → Agrees n xs ys
    → digits_of_front m ys ≡ digits_of_front m xs
value_same m xs ys n le same h =
    ap (λ (k : ℕ). digits_value 10 (take k ys)) same ∙ ap (λ (t : List ℕ). digits_value 10 t) (sym (agrees_take n (digit_count m xs) xs ys le h))

-- how many bytes an answer takes, or how many may begin one
abbrev pub extent : {A : Type 0} → Result (A × ℕ) ℕ → ℕ
extent (Ok r) = r.1
extent (Err n) = n

abbrev numeral : (w p d v u : ℕ) → Result (ℕ × ℕ) ℕ
numeral w p d v u =
    cond (nat_eq w 0) (Err 0) (cond (nat_eq p 46) (cond (nat_eq d 0) (Err (w + 1)) (Ok (v * 1000000 + u * 10 ^ (6 - d), w + 1 + d))) (Ok (v * 1000000, w)))

numeral_none : (w p d v u : ℕ) → nat_eq w 0 ≡ true → numeral w p d v u ≡ Err 0
numeral_none w p d v u e = rw e refl

numeral_whole : (w p d v u : ℕ) → nat_eq w 0 ≡ false → nat_eq p 46 ≡ false → numeral w p d v u ≡ Ok (v * 1000000, w)
numeral_whole w p d v u e f = rw (e, f) refl

numeral_extent : (w p d v u : ℕ) → nat_eq w 0 ≡ false → nat_eq p 46 ≡ true → w + 1 + d ≤ extent (numeral w p d v u)
numeral_extent w p d v u e f =
    rw (e, f) ((elim (nat_eq d 0) as (λ b. nat_eq d 0 ≡ b
    → w + 1 + d ≤ extent (cond b (Err (w + 1)) (Ok (v * 1000000 + u * 10 ^ (6 - d), w + 1 + d)))) [
      | true ↦ λ g. grind (arith, nat_tests)
      | false ↦ λ g.
          omega arith
    ]) refl)

whole_extent : (w p d v u : ℕ) → nat_eq w 0 ≡ false → w ≤ extent (numeral w p d v u)
whole_extent w p d v u e =
    (elim (nat_eq p 46) as (λ b. nat_eq p 46 ≡ b → w ≤ extent (numeral w p d v u)) [
      | true ↦ λ f. omega (arith, numeral_extent w p d v u e f)
      | false ↦ λ f. rw (e, f) (omega arith)
    ]) refl

abbrev numeral_in : List ℕ → ℕ → Result (ℕ × ℕ) ℕ
numeral_in bytes w = numeral w (slice_index bytes w) (digit_count 6 (drop (w + 1) bytes)) (digits_of_front 12 bytes) (digits_of_front 6 (drop (w + 1) bytes))

number_is : (bytes : List ℕ) → number_of bytes ≡ numeral_in bytes (digit_count 12 bytes)
unfolding number_of
number_is bytes = refl

few_digits : (xs : List ℕ) (n : ℕ) → extent (numeral_in xs (digit_count 12 xs)) ≤ n → digit_count 12 xs ≤ n
few_digits xs n le =
    let w = digit_count 12 xs in
    (elim (nat_eq w 0) as (λ b. nat_eq w 0 ≡ b → w ≤ n) [
      | true ↦ λ e. grind (arith, nat_tests)
      | false ↦ λ e. omega (
        arith,
        le,
        whole_extent w (slice_index xs w) (digit_count 6 (drop (w + 1) xs)) (digits_of_front 12 xs)
            (digits_of_front 6 (drop (w + 1) xs)) e,
      )
    ]) refl

-- numbers that agree after the same digits
numerals_same : (xs ys : List ℕ) (w n : ℕ) → w ≡ digit_count 12 xs → digit_count 12 ys ≡ w → extent (numeral_in xs w) ≤ n → Agrees (suc n) xs ys
    → numeral_in ys w ≡ numeral_in xs w
numerals_same xs ys w n is same le h =
    (elim (nat_eq w 0) as (λ b. nat_eq w 0 ≡ b → numeral_in ys w ≡ numeral_in xs w) [
      | true ↦ λ e. numeral_none w (slice_index ys w) (digit_count 6 (drop (w + 1) ys)) (digits_of_front 12 ys) (digits_of_front 6 (drop (w + 1) ys)) e
          ∙ sym (numeral_none w (slice_index xs w) (digit_count 6 (drop (w + 1) xs)) (digits_of_front 12 xs) (digits_of_front 6 (drop (w + 1) xs)) e)
      | false ↦ λ e.
          let some : w ≤ n =
          omega (
            arith,
            whole_extent w (slice_index xs w) (digit_count 6 (drop (w + 1) xs)) (digits_of_front 12 xs) (digits_of_front 6 (drop (w + 1) xs)) e,
            le,
          ) in
          let point : slice_index ys w ≡ slice_index xs w = sym (agrees_at (suc n) w xs ys (omega arith) h) in
          let value : digits_of_front 12 ys ≡ digits_of_front 12 xs = value_same 12 xs ys (suc n) (omega arith) (same ∙ is) h in
          (elim (nat_eq (slice_index xs w) 46) as (λ b. nat_eq (slice_index xs w) 46 ≡ b → numeral_in ys w ≡ numeral_in xs w) [
            | true ↦ λ f.
                let long =
                numeral_extent w (slice_index xs w) (digit_count 6 (drop (w + 1) xs)) (digits_of_front 12 xs) (digits_of_front 6 (drop (w + 1) xs)) e f in
                let m = n - (w + 1) in
                let sum : (w + 1) + suc m ≡ suc n = omega (arith, long, le) in
                let beyond = agrees_drop (w + 1) (suc m) xs ys (subst (λ (k : ℕ). Agrees k xs ys) (sym sum) h) in
                let few : digit_count 6 (drop (w + 1) xs) ≤ m = omega (arith, long, le) in
                let count = count_same 6 (drop (w + 1) xs) (drop (w + 1) ys) m few beyond in
                let part = value_same 6 (drop (w + 1) xs) (drop (w + 1) ys) (suc m) (omega (arith, few)) count beyond in
                ap (λ (p : ℕ). numeral w p (digit_count 6 (drop (w + 1) ys)) (digits_of_front 12 ys) (digits_of_front 6 (drop (w + 1) ys))) point
                ∙ ap (λ (d : ℕ). numeral w (slice_index xs w) d (digits_of_front 12 ys) (digits_of_front 6 (drop (w + 1) ys))) count
                ∙ ap (λ (v : ℕ). numeral w (slice_index xs w) (digit_count 6 (drop (w + 1) xs)) v (digits_of_front 6 (drop (w + 1) ys))) value
                ∙ ap (λ (u : ℕ). numeral w (slice_index xs w) (digit_count 6 (drop (w + 1) xs)) (digits_of_front 12 xs) u) part
            | false ↦ λ f.
                numeral_whole w (slice_index ys w) (digit_count 6 (drop (w + 1) ys)) (digits_of_front 12 ys) (digits_of_front 6 (drop (w + 1) ys)) e
                (ap (λ (p : ℕ). nat_eq p 46) point ∙ f)
                ∙ ap (λ (v : ℕ). Ok (v * 1000000, w)) value
                ∙ sym (numeral_whole w (slice_index xs w) (digit_count 6 (drop (w + 1) xs)) (digits_of_front 12 xs) (digits_of_front 6 (drop (w + 1) xs)) e f)
          ]) refl
    ]) refl

number_same : (xs ys : List ℕ) (n : ℕ) → extent (number_of xs) ≤ n → Agrees (suc n) xs ys → number_of ys ≡ number_of xs
number_same xs ys n le h =
    let w = digit_count 12 xs in
    let le' : extent (numeral_in xs w) ≤ n = subst (λ (r : Result (ℕ × ℕ) ℕ). extent r ≤ n) (number_is xs) le in
    let few : w ≤ n = few_digits xs n le' in
    let count = count_same 12 xs ys n few h in
    number_is ys ∙ ap (numeral_in ys) count ∙ numerals_same xs ys w n refl count le' h ∙ sym (number_is xs)

-- ---- exponents

abbrev power_in : List ℕ → ℕ → ℕ → Result (ℕ × ℕ) ℕ
power_in bytes l v = cond (nat_eq l 0) (Err 0) (cond (nat_le v 64) (Ok (v, l)) (Ok (slice_index bytes 0 - 48, 1)))

exponent_is : (bytes : List ℕ) → exponent_of bytes ≡ power_in bytes (digit_count 2 bytes) (digits_of_front 2 bytes)
unfolding exponent_of
exponent_is bytes = refl

exponent_same : (xs ys : List ℕ) (n : ℕ) → extent (exponent_of xs) ≤ n → Agrees (suc n) xs ys → exponent_of ys ≡ exponent_of xs
exponent_same xs ys n le h =
    let l = digit_count 2 xs in
    let v = digits_of_front 2 xs in
    let le' : extent (power_in xs l v) ≤ n = subst (λ (r : Result (ℕ × ℕ) ℕ). extent r ≤ n) (exponent_is xs) le in
    exponent_is ys ∙ by_parts (nat_eq l 0) refl le' ∙ sym (exponent_is xs)
  where
    first : digit_count 2 ys ≡ digit_count 2 xs → digit_count 2 xs ≤ suc n
        → power_in ys (digit_count 2 ys) (digits_of_front 2 ys) ≡ power_in xs (digit_count 2 xs) (digits_of_front 2 xs)
    first count few =
        ap (λ (k : ℕ). power_in ys k (digits_of_front 2 ys)) count
        ∙ ap (λ (w : ℕ). power_in ys (digit_count 2 xs) w) (value_same 2 xs ys (suc n) few count h)
        ∙ ap (λ (b : ℕ). cond (nat_eq (digit_count 2 xs) 0) (Err 0)
        (cond (nat_le (digits_of_front 2 xs) 64) (Ok (digits_of_front 2 xs, digit_count 2 xs)) (Ok (b - 48, 1))))
        (sym (agrees_at (suc n) 0 xs ys (omega arith) h))

    wide : (b : Bool) → nat_le (digits_of_front 2 xs) 64 ≡ b → nat_eq (digit_count 2 xs) 0 ≡ false
        → extent (power_in xs (digit_count 2 xs) (digits_of_front 2 xs)) ≤ n
        → power_in ys (digit_count 2 ys) (digits_of_front 2 ys) ≡ power_in xs (digit_count 2 xs) (digits_of_front 2 xs)
    wide true f e le =
        let few : digit_count 2 xs ≤ n =
        subst (λ (r : Result (ℕ × ℕ) ℕ). extent r ≤ n)
        (ap (λ (b : Bool). cond b (Err 0) (cond (nat_le (digits_of_front 2 xs) 64) (Ok (digits_of_front 2 xs, digit_count 2 xs))
        (Ok (slice_index xs 0 - 48, 1)))) e
        ∙ ap (λ (b : Bool). cond b (Ok (digits_of_front 2 xs, digit_count 2 xs)) (Ok (slice_index xs 0 - 48, 1))) f) le in
        first (count_same 2 xs ys n few h) (omega arith)
    wide false f e le =
        let one : 1 ≤ n =
        subst (λ (r : Result (ℕ × ℕ) ℕ). extent r ≤ n)
        (ap (λ (b : Bool). cond b (Err 0) (cond (nat_le (digits_of_front 2 xs) 64) (Ok (digits_of_front 2 xs, digit_count 2 xs))
        (Ok (slice_index xs 0 - 48, 1)))) e
        ∙ ap (λ (b : Bool). cond b (Ok (digits_of_front 2 xs, digit_count 2 xs)) (Ok (slice_index xs 0 - 48, 1))) f) le in
        first (count_first 2 xs ys (agrees_less 2 (suc n) xs ys (omega arith) h)) (omega (arith, count_most 2 xs))

    by_parts : (b : Bool) → nat_eq (digit_count 2 xs) 0 ≡ b → extent (power_in xs (digit_count 2 xs) (digits_of_front 2 xs)) ≤ n
        → power_in ys (digit_count 2 ys) (digits_of_front 2 ys) ≡ power_in xs (digit_count 2 xs) (digits_of_front 2 xs)
    by_parts true e le = first (count_same 2 xs ys n (grind (arith, nat_tests)) h) (grind (arith, nat_tests))
    by_parts false e le = wide (nat_le (digits_of_front 2 xs) 64) refl e le

-- ---- tokens

abbrev pub token_extent : Result Found ℕ → ℕ
token_extent (Ok f) = f.len
token_extent (Err n) = n

number_extent : (r : Result (ℕ × ℕ) ℕ) → token_extent (number_found r) ≡ extent r
number_extent (Ok r) = refl
number_extent (Err n) = refl

exponent_extent : (r : Result (ℕ × ℕ) ℕ) → token_extent (exponent_found r) ≡ extent r
exponent_extent (Ok r) = refl
exponent_extent (Err n) = refl

word_extent : (s : Option Symbol) (n : ℕ) → token_extent (word_found s n) ≡ n
word_extent (Some s) n = refl
word_extent None n = refl

abbrev worded : Bool → Allowed → List Symbol → List ℕ → Result Found ℕ
worded digit allowed words bytes =
    cond digit (number_found (number_of bytes)) (word_found (longest_of allowed words bytes).symbol (longest_of allowed words bytes).len)

word_same : (allowed : Allowed) (words : List Symbol) (xs ys : List ℕ) (n : ℕ) → (longest_of allowed words xs).len ≤ n → Agrees (suc n) xs ys
    → longest_of allowed words ys ≡ longest_of allowed words xs
unfolding longest_of
word_same allowed words xs ys n le h = longest_same no_front allowed words xs ys n le h

worded_same : (digit : Bool) (allowed : Allowed) (words : List Symbol) (xs ys : List ℕ) (n : ℕ) → token_extent (worded digit allowed words xs) ≤ n
    → Agrees (suc n) xs ys → worded digit allowed words ys ≡ worded digit allowed words xs
worded_same true allowed words xs ys n le h = ap number_found (number_same xs ys n (omega (arith, le, number_extent (number_of xs))) h)
worded_same false allowed words xs ys n le h =
    ap (λ (f : Front). word_found f.symbol f.len) (word_same allowed words xs ys n
    (omega (arith, le, word_extent (longest_of allowed words xs).symbol (longest_of allowed words xs).len)) h)

tested_same : (numbers : Bool) (allowed : Allowed) (words : List Symbol) (xs ys : List ℕ) (n : ℕ)
    → token_extent (worded (numbers && is_ascii_digit (slice_index xs 0)) allowed words xs) ≤ n → Agrees (suc n) xs ys
    → worded (numbers && is_ascii_digit (slice_index ys 0)) allowed words ys ≡ worded (numbers && is_ascii_digit (slice_index xs 0)) allowed words xs
tested_same numbers allowed words xs ys n le h =
    ap (λ (b : ℕ). worded (numbers && is_ascii_digit b) allowed words ys) (sym (agrees_at (suc n) 0 xs ys (omega arith) h))
    ∙ worded_same (numbers && is_ascii_digit (slice_index xs 0)) allowed words xs ys n le h

token_same : (e : Expect) (frames : List Frame) (quoted : Bool) (place : Place) (xs ys : List ℕ) (n : ℕ)
    → token_extent (token_from e frames quoted place xs) ≤ n → Agrees (suc n) xs ys → token_from e frames quoted place ys ≡ token_from e frames quoted place xs
unfolding token_from
token_same (expect.Exponent at) frames quoted place xs ys n le h =
    ap exponent_found (exponent_same xs ys n (omega (arith, le, exponent_extent (exponent_of xs))) h)
token_same e frames quoted place xs ys n le h = tested_same (takes_number e) (allowed_for e frames quoted) (words_for e place) xs ys n le h

-- ---- texts

blank_step : (b : Bool) (xs ys : List ℕ) (n : ℕ) → ((m : ℕ) → blank_count xs ≤ m → Agrees (suc m) xs ys → blank_count ys ≡ blank_count xs)
    → cond b (suc (blank_count xs)) 0 ≤ n → Agrees n xs ys → cond b (suc (blank_count ys)) 0 ≡ cond b (suc (blank_count xs)) 0
blank_step true xs ys zero same le h = absurd (omega arith)
blank_step true xs ys (suc m) same le h = ap suc (same m (omega arith) h)
blank_step false xs ys n same le h = refl

blank_same : (xs ys : List ℕ) (n : ℕ) → blank_count xs ≤ n → Agrees (suc n) xs ys → blank_count ys ≡ blank_count xs
blank_same [] ys n le h = absurd h
blank_same (x ∷ xs) [] n le h = absurd h
blank_same (x ∷ xs) (y ∷ ys) n le h =
    ap (λ (z : ℕ). cond (is_blank_of z) (suc (blank_count ys)) 0) (sym h.0) ∙ blank_step (is_blank_of x) xs ys n (λ m. blank_same xs ys m) le h.1

abbrev step_in : Place → ℕ → Reader → ℕ → List ℕ → ℕ → Result Nodes ℕ
step_in place n reader at bytes b =
    cond (nat_eq (length (drop b bytes)) 0) (ended reader (at + b))
    (go_on (read_rest place n) reader (at + b) (drop b bytes) (token_from reader.expect reader.frames reader.quoted place (drop b bytes)))

read_is : (place : Place) (n : ℕ) (reader : Reader) (at : ℕ) (bytes : List ℕ)
    → read_rest place (suc n) reader at bytes ≡ step_in place n reader at bytes (blank_count bytes)
unfolding read_rest
read_is place n reader at bytes = refl

read_none : (place : Place) (reader : Reader) (at : ℕ) (bytes : List ℕ) → read_rest place zero reader at bytes ≡ Err at
unfolding read_rest
read_none place reader at bytes = refl

err_is : (m n : ℕ) → ◌≡◌ {A = Result Nodes ℕ} (Err m) (Err n) → m ≡ n
err_is m n e = cc

-- an end that is at fault is at fault there
end_fault : (b : Bool) (nodes : Nodes) (at p : ℕ) → ◌≡◌ {A = Result Nodes ℕ} (cond b (Ok nodes) (Err at)) (Err p) → at ≡ p
end_fault true nodes at p e = absurd cc
end_fault false nodes at p e = err_is at p e

pub go_reaches : (place : Place) (n : ℕ) (reader : Reader) (at : ℕ) (rest : List ℕ) (p : ℕ) (r : Result Found ℕ)
    → ((reader' : Reader) (at' : ℕ) (bytes : List ℕ) → read_rest place n reader' at' bytes ≡ Err p → at' ≤ p)
    → go_on (read_rest place n) reader at rest r ≡ Err p → at + token_extent r ≤ p
go_reaches place n reader at rest p (Err k) h e = omega (arith, err_is (at + k) p e)
go_reaches place n reader at rest p (Ok f) h e = h (with_token reader at f.token) (at + f.len) (drop f.len rest) e

pub reaches : (place : Place) (n : ℕ) (reader : Reader) (at : ℕ) (bytes : List ℕ) (p : ℕ) → read_rest place n reader at bytes ≡ Err p → at ≤ p
reaches place zero reader at bytes p e = omega (arith, err_is at p (sym (read_none place reader at bytes) ∙ e))
reaches place (suc n) reader at bytes p e =
    let b = blank_count bytes in
    (elim (nat_eq (length (drop b bytes)) 0) as (λ t.
    cond t (ended reader (at + b)) (go_on (read_rest place n) reader (at + b) (drop b bytes)
    (token_from reader.expect reader.frames reader.quoted place (drop b bytes))) ≡ Err p → at ≤ p) [
      | true ↦ λ f. omega (arith, end_fault _ _ (at + b) p f)
      | false ↦ λ f. omega (
        arith,
        go_reaches place n reader (at + b) (drop b bytes) p
            (token_from reader.expect reader.frames reader.quoted place (drop b bytes)) (λ reader' at' rest'. reaches place n reader' at' rest' p) f,
      )
    ]) (sym (read_is place n reader at bytes) ∙ e)

go_same : (place : Place) (n : ℕ) (reader : Reader) (at : ℕ) (xs ys : List ℕ) (p : ℕ) (r : Result Found ℕ)
    → ((reader' : Reader) (at' : ℕ) (xs' ys' : List ℕ) → read_rest place n reader' at' xs' ≡ Err p → at' ≤ p → p < at' + length xs'
    → Agrees (suc (p - at')) xs' ys' → read_rest place n reader' at' ys' ≡ Err p)
    → go_on (read_rest place n) reader at xs r ≡ Err p → at + token_extent r ≤ p → p < at + length xs → Agrees (suc (p - at)) xs ys
    → go_on (read_rest place n) reader at ys r ≡ Err p
go_same place n reader at xs ys p (Err k) same e le lt h = e
go_same place n reader at xs ys p (Ok f) same e le lt h =
    let sum : suc (p - at) ≡ f.len + suc (p - (at + f.len)) = omega arith in
    same (with_token reader at f.token) (at + f.len) (drop f.len xs) (drop f.len ys) e le (omega (arith, length-drop f.len xs))
    (agrees_drop f.len (suc (p - (at + f.len))) xs ys (subst (λ (k : ℕ). Agrees k xs ys) sum h))

pub same_fault : (place : Place) (n : ℕ) (reader : Reader) (at : ℕ) (xs ys : List ℕ) (p : ℕ)
    → read_rest place n reader at xs ≡ Err p → at ≤ p → p < at + length xs
    → Agrees (suc (p - at)) xs ys → read_rest place n reader at ys ≡ Err p
same_fault place zero reader at xs ys p e le lt h = read_none place reader at ys ∙ sym (read_none place reader at xs) ∙ e
same_fault place (suc n) reader at xs ys p e le lt h =
    let b = blank_count xs in
    let token = token_from reader.expect reader.frames reader.quoted place (drop b xs) in
    (elim (nat_eq (length (drop b xs)) 0) as (λ t. nat_eq (length (drop b xs)) 0 ≡ t
    → cond t (ended reader (at + b)) (go_on (read_rest place n) reader (at + b) (drop b xs) token) ≡ Err p → read_rest place (suc n) reader at ys ≡ Err p) [
      | true ↦ λ g f.
          let none : length (drop b xs) ≡ 0 = grind (arith, nat_tests) in
          absurd (omega (arith, end_fault _ _ (at + b) p f, length-drop b xs, none))
      | false ↦ λ g f.
          let far = go_reaches place n reader (at + b) (drop b xs) p token (λ reader' at' rest'. reaches place n reader' at' rest' p) f in
          let few : b ≤ p - at = omega (arith, far) in
          let blanks = blank_same xs ys (p - at) few h in
          let sum : suc (p - at) ≡ b + suc (p - (at + b)) = omega (arith, far) in
          let beyond = agrees_drop b (suc (p - (at + b))) xs ys (subst (λ (k : ℕ). Agrees k xs ys) sum h) in
          let some : nat_eq (length (drop b ys)) 0 ≡ false =
          (let more = agrees_some (p - (at + b)) (drop b xs) (drop b ys) beyond in grind (arith, nat_tests)) in
          let tokens = token_same reader.expect reader.frames reader.quoted place (drop b xs) (drop b ys) (p - (at + b)) (omega (arith, far)) beyond in
          read_is place n reader at ys
          ∙ ap (step_in place n reader at ys) blanks
          ∙ ap (λ (t : Bool). cond t (ended reader (at + b))
          (go_on (read_rest place n) reader (at + b) (drop b ys) (token_from reader.expect reader.frames reader.quoted place (drop b ys)))) some
          ∙ ap (go_on (read_rest place n) reader (at + b) (drop b ys)) tokens
          ∙ go_same place n reader (at + b) (drop b xs) (drop b ys) p token (λ reader' at' xs' ys'. same_fault place n reader' at' xs' ys' p) f far
          (omega (arith, length-drop b xs, far)) beyond
    ]) refl (sym (read_is place n reader at xs) ∙ e)

-- a text that agrees up to the fault is at fault there
read_fault : (place : Place) (xs ys : List ℕ) (at : ℕ) → at < length xs → read_text place xs ≡ Err at → Agrees (at + 1) xs ys → read_text place ys ≡ Err at
unfolding read_text
read_fault place xs ys at within e h =
    let one : at + 1 ≡ suc (at - 0) = omega arith in
    same_fault place most_words new_reader 0 xs ys at e (omega arith) (omega arith) (subst (λ (k : ℕ). Agrees k xs ys) one h)

-- a fault is within the text or at its end
agrees_cut : (n k : ℕ) (xs ys : List ℕ) → n ≤ k → Agrees n xs ys → Agrees n (take k xs) (take k ys)
agrees_cut zero k xs ys le h = tt
agrees_cut (suc n) zero xs ys le h = absurd (omega arith)
agrees_cut (suc n) (suc k) [] ys le h = absurd h
agrees_cut (suc n) (suc k) (x ∷ xs) [] le h = absurd h
agrees_cut (suc n) (suc k) (x ∷ xs) (y ∷ ys) le h = (h.0, agrees_cut n k xs ys (omega arith) h.1)

agrees_long : (n : ℕ) (xs ys : List ℕ) → Agrees n xs ys → n ≤ length ys
agrees_long zero xs ys h = omega arith
agrees_long (suc n) [] ys h = absurd h
agrees_long (suc n) (x ∷ xs) [] h = absurd h
agrees_long (suc n) (x ∷ xs) (y ∷ ys) h = omega (arith, agrees_long n xs ys h.1)

pub short_is : (place : Place) (text : List ℕ) → length text ≤ 4096 → nodes_of_text place text ≡ read_text place text
unfolding nodes_of_text
short_is place text le = let e : nat_le (length text) 4096 ≡ true = grind (arith, nat_tests) in rw e refl

pub long_is : (place : Place) (text : List ℕ) → 4096 < length text → nodes_of_text place text ≡ cut_short (read_text place (take 4096 text))
unfolding nodes_of_text
long_is place text lt = let e : nat_le (length text) 4096 ≡ false = grind (arith, nat_tests) in rw e refl

-- how far a text that is cut was read
pub cut_cases : (r : Result Nodes ℕ) (at : ℕ) → cut_short r ≡ Err at → (r ≡ Err at) ⊎ (at ≡ 4096)
cut_cases (Ok nodes) at e = inr (sym (err_is 4096 at e))
cut_cases (Err k) at e = inl e

-- a fault of a text that is cut or not, below its first 4,096 bytes
front_fault : (place : Place) (ys : List ℕ) (at : ℕ) → read_text place (take 4096 ys) ≡ Err at → nodes_of_text place ys ≡ Err at
front_fault place ys at e =
    elim (cases_lt 4096 (length ys)) [
      | inl long ↦ long_is place ys long ∙ ap cut_short e
      | inr short ↦ short_is place ys short ∙ ap (read_text place) (sym (take_all 4096 ys short)) ∙ e
    ]

pub nodes_fault : (place : Place) (xs ys : List ℕ) (at : ℕ) → at < length xs → nodes_of_text place xs ≡ Err at → Agrees (at + 1) xs ys
    → nodes_of_text place ys ≡ Err at
nodes_fault place xs ys at within e h =
    elim (cases_lt 4096 (length xs)) [
      | inl long ↦ elim (cases_lt at 4096) [ inl below ↦ in_front long below | inr past ↦ at_limit long past ]
      | inr short ↦
          front_fault place ys at (read_fault place xs (take 4096 ys) at within (sym (short_is place xs short)
          ∙ e) (subst (λ (l : List ℕ). Agrees (at + 1) l (take 4096 ys)) (take_all 4096 xs short) (agrees_cut (at + 1) 4096 xs ys (omega arith) h)))
    ]
  where
    -- both texts are longer than 4,096 bytes, and their fronts are one
    at_limit : 4096 < length xs → 4096 ≤ at → nodes_of_text place ys ≡ Err at
    at_limit long past =
        let more : 4096 < length ys = omega (arith, agrees_long (at + 1) xs ys h) in
        long_is place ys more
        ∙ ap (λ (l : List ℕ). cut_short (read_text place l)) (sym (agrees_take (at + 1) 4096 xs ys (omega arith) h))
        ∙ sym (long_is place xs long) ∙ e

    in_front : 4096 < length xs → at < 4096 → nodes_of_text place ys ≡ Err at
    in_front long below =
        elim (cut_cases (read_text place (take 4096 xs)) at (sym (long_is place xs long) ∙ e)) [
          | inl cut ↦ front_fault place ys at (read_fault place (take 4096 xs) (take 4096 ys) at (omega (arith, length-take 4096 xs)) cut
              (agrees_cut (at + 1) 4096 xs ys (omega arith) h))
          | inr last ↦ absurd (omega arith)
        ]

-- what is too deep or has other sorts is no fault of syntax
no_syntax : (b : Bool) (crowded misfit : Option ℕ) (nodes : Nodes) (at : ℕ)
    → cond b (Err (fault.TooDeep 0)) (brackets_judged crowded misfit nodes) ≡ Err (fault.Syntax at) → ⊥
no_syntax true crowded misfit nodes at e = cc
no_syntax false (Some k) misfit nodes at e = cc
no_syntax false None (Some k) nodes at e = cc
no_syntax false None None nodes at e = cc

syntax_is : (m n : ℕ) → ◌≡◌ {A = Result Nodes ExprFault} (Err (fault.Syntax m)) (Err (fault.Syntax n)) → m ≡ n
syntax_is m n e = cc

pub syntax_fault : (text : List ℕ) (days : List (List ℕ)) (wanted : Option Sort) (r : Result Nodes ℕ) (at : ℕ)
    → judged_text text days wanted r ≡ Err (fault.Syntax at) → r ≡ Err at
syntax_fault text days wanted (Ok nodes) at e =
    absurd (no_syntax (nat_lt 512 (survey_of text days nodes.nodes).depth) nodes.crowded (misfit_of (survey_of text days nodes.nodes) wanted) nodes at e)
syntax_fault text days wanted (Err k) at e = ap (λ (n : ℕ). Err n) (syntax_is k at e)
