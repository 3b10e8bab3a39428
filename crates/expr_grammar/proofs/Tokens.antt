-- The next token of a text: numbers, exponents and words, both ways.
use Rattle.std.proofs.Common.{◌≡◌, ℕ, zero, suc, ◌+◌, ◌-◌, ◌*◌, ◌^◌, ◌<◌, ◌≤◌, Bool, true, false, cond, List, [], ◌∷◌, ◌++◌, length, take, drop, Option}
use Rattle.std.proofs.Common.{Some, None, Result, Ok, Err, refl, sym, ap, subst, ◌⊎◌, ◌∙◌, inl, inr, add-one, append_assoc, arith}
use Rattle.std.specs.Prelude.{◌&&◌, ◌||◌, nat_eq, nat_lt, nat_le, slice_index}
use Rattle.std.specs.Char.{is_ascii_digit}
use Rattle.std.specs.Str.Parse.{digits_value}
use Rattle.std.proofs.lemmas.Bool.Decides.{nat_tests}
use Rattle.expr_lang.specs.declared.tree.Place.{Place}
use Rattle.expr_lang.specs.declared.words.Symbol.{Symbol}
use Rattle.expr_lang.specs.declared.token.Allowed.{Allowed}
use Rattle.expr_lang.specs.declared.token.Front.{Front}
use Rattle.expr_lang.specs.declared.reading.Frame.{Frame}
use Rattle.expr_lang.specs.declared.reading.Expect.{Expect}
use Rattle.expr_lang.specs.declared.reading.Expect.TheVariants as expect
use Rattle.expr_lang.specs.declared.reading.Token.{Token}
use Rattle.expr_lang.specs.declared.reading.Token.TheVariants as token
use Rattle.expr_lang.specs.declared.reading.Found.{Found}
use Rattle.expr_lang.specs.Words.{text_of}
use Rattle.expr_lang.specs.Token.{is_allowed_of, fits_of, front_of, better_of, longest_from, no_front, longest_of, digit_count, digits_of_front, number_of}
use Rattle.expr_lang.specs.Token.{exponent_of}
use Rattle.expr_lang.specs.Reading.{is_blank_of, takes_number, words_for, allowed_for, found, number_found, exponent_found, word_found, token_from}
use Rattle.expr_grammar.specs.Grammar.{IsDigits, IsNumber, IsExponent, IsWord, IsAmong, behind_point, number_value}
use Rattle.expr_lang.proofs.Digits.{digit_is}
use Rattle.expr_grammar.proofs.Words.{take_front, first_is, both, among_all, dark, dark_of, is_open, words_clear, word_dark, word_token, IsRaised, word_long}
use Rattle.expr_grammar.proofs.Words.{token_by, token_is}

-- ---- digits

pub count_is : (m : ℕ) (ds rest : List ℕ) → IsDigits ds → length ds ≤ m → first_is is_ascii_digit rest ≡ false → digit_count m (ds ++ rest) ≡ length ds
count_is zero [] rest h le f = refl
count_is zero (d ∷ ds) rest h le f = absurd (omega arith)
count_is (suc m) [] [] h le f = refl
count_is (suc m) [] (r ∷ rest) h le f = rw f refl
count_is (suc m) (d ∷ ds) rest h le f = rw (h.0, count_is m ds rest h.1 (omega arith) f) refl

abbrev SplitDigits : ℕ → List ℕ → ℕ → Type 0
SplitDigits m bytes n = (ds : List ℕ) × (rest : List ℕ) × (bytes ≡ ds ++ rest) × IsDigits ds × (n ≡ length ds) × (length ds ≤ m)

split_digit : (m x : ℕ) (xs : List ℕ) (t : Bool) → is_ascii_digit x ≡ t → SplitDigits m xs (digit_count m xs)
    → SplitDigits (suc m) (x ∷ xs) (cond t (suc (digit_count m xs)) 0)
split_digit m x xs true e h = (x ∷ h.0, h.1, ap (λ (l : List ℕ). x ∷ l) h.2, (e, h.3), ap suc h.4, omega (arith, h.5))
split_digit m x xs false e h = ([], x ∷ xs, refl, tt, refl, omega arith)

pub digits_split : (m : ℕ) (bytes : List ℕ)
    → (ds : List ℕ) × (rest : List ℕ) × (bytes ≡ ds ++ rest) × IsDigits ds × (digit_count m bytes ≡ length ds) × (length ds ≤ m)
digits_split zero bytes = ([], bytes, refl, tt, refl, omega arith)
digits_split (suc m) [] = ([], [], refl, tt, refl, omega arith)
digits_split (suc m) (x ∷ xs) = split_digit m x xs (is_ascii_digit x) refl (digits_split m xs)

value_is : (m : ℕ) (bytes ds rest : List ℕ) → bytes ≡ ds ++ rest → digit_count m bytes ≡ length ds → digits_of_front m bytes ≡ digits_value 10 ds
value_is m bytes ds rest e c = ap (λ (k : ℕ). digits_value 10 (take k bytes)) c ∙ ap (λ (l : List ℕ). digits_value 10 (take (length ds) l)) e
    ∙ ap (digits_value 10) (take_front ds rest)

index_front : (ds rest : List ℕ) → slice_index (ds ++ rest) (length ds) ≡ slice_index rest 0
index_front [] rest = refl
index_front (d ∷ ds) rest = index_front ds rest

drop_past : (ds rest : List ℕ) (x : ℕ) → drop (length ds + 1) (ds ++ (x ∷ rest)) ≡ rest
drop_past ds rest x = ap (λ (k : ℕ). drop k (ds ++ (x ∷ rest))) (add-one (length ds)) ∙ past ds
  where
    past : (ds : List ℕ) → drop (suc (length ds)) (ds ++ (x ∷ rest)) ≡ rest
    past [] = refl
    past (d ∷ ds) = past ds

-- ---- numbers

numeral : (w p d v u : ℕ) → Result (ℕ × ℕ) ℕ
numeral w p d v u =
    cond (nat_eq w 0) (Err 0) (cond (nat_eq p 46) (cond (nat_eq d 0) (Err (w + 1)) (Ok (v * 1000000 + u * 10 ^ (6 - d), w + 1 + d))) (Ok (v * 1000000, w)))

numeral_is : (bytes : List ℕ)
    → number_of bytes ≡ numeral (digit_count 12 bytes) (slice_index bytes (digit_count 12 bytes)) (digit_count 6 (drop (digit_count 12 bytes + 1) bytes))
    (digits_of_front 12 bytes) (digits_of_front 6 (drop (digit_count 12 bytes + 1) bytes))
unfolding number_of numeral
numeral_is bytes = refl

numeral_whole : (w p d v u : ℕ) → 1 ≤ w → nat_eq p 46 ≡ false → numeral w p d v u ≡ Ok (v * 1000000, w)
unfolding numeral
numeral_whole w p d v u some e = let f : nat_eq w 0 ≡ false = grind (arith, nat_tests) in rw (f, e) refl

numeral_part : (w p d v u : ℕ) → 1 ≤ w → p ≡ 46 → 1 ≤ d → numeral w p d v u ≡ Ok (v * 1000000 + u * 10 ^ (6 - d), w + 1 + d)
unfolding numeral
numeral_part w p d v u some e more = let f : nat_eq w 0 ≡ false = grind (arith, nat_tests) in let g : nat_eq p 46 ≡ true =
    grind (arith, nat_tests) in let h : nat_eq d 0 ≡ false = grind (arith, nat_tests) in rw (f, g, h) refl

no_point : (rest : List ℕ) → first_is (λ b. nat_eq b 46) rest ≡ false → nat_eq (slice_index rest 0) 46 ≡ false
no_point [] h = refl
no_point (r ∷ rest) h = h

length_and : (xs ys : List ℕ) → length (xs ++ ys) ≡ length xs + length ys
length_and [] ys = omega arith
length_and (x ∷ xs) ys = let h = length_and xs ys in omega arith

nothing_behind : (xs : List ℕ) → xs ++ [] ≡ xs
nothing_behind [] = refl
nothing_behind (x ∷ xs) = ap (λ (l : List ℕ). x ∷ l) (nothing_behind xs)

pub number_read : (digits decimals rest : List ℕ) → IsNumber digits decimals → first_is is_ascii_digit rest ≡ false → first_is (λ b. nat_eq b 46) rest ≡ false
    → number_of ((digits ++ behind_point decimals) ++ rest) ≡ Ok (number_value digits decimals, length (digits ++ behind_point decimals))
number_read digits [] rest h f g =
    let text : (digits ++ []) ++ rest ≡ digits ++ rest = ap (λ (l : List ℕ). l ++ rest) (nothing_behind digits) in
    let count = count_is 12 digits rest h.whole h.few f in
    let value = value_is 12 (digits ++ rest) digits rest refl count in
    let point : slice_index (digits ++ rest) (digit_count 12 (digits ++ rest)) ≡ slice_index rest 0 = ap (slice_index (digits ++ rest)) count
    ∙ index_front digits rest in
    let sum : digits_value 10 digits * 1000000 ≡ number_value digits [] = omega arith in
    ap number_of text ∙ numeral_is (digits ++ rest)
    ∙ numeral_whole (digit_count 12 (digits ++ rest)) (slice_index (digits ++ rest) (digit_count 12 (digits ++ rest)))
    (digit_count 6 (drop (digit_count 12 (digits ++ rest) + 1) (digits ++ rest))) (digits_of_front 12 (digits ++ rest))
    (digits_of_front 6 (drop (digit_count 12 (digits ++ rest) + 1) (digits ++ rest))) (omega (arith, count, h.some)) (ap (λ (p : ℕ). nat_eq p 46) point
    ∙ no_point rest g)
    ∙ ap (λ (v : ℕ). Ok (v * 1000000, digit_count 12 (digits ++ rest))) value
    ∙ ap (λ (v : ℕ). Ok (v, digit_count 12 (digits ++ rest))) sum
    ∙ ap (λ (w : ℕ). Ok (number_value digits [], w)) (count ∙ ap length (sym (nothing_behind digits)))
number_read digits (d ∷ ds) rest h f g =
    let decimals = d ∷ ds in
    let beyond = 46 ∷ (decimals ++ rest) in
    let bytes = digits ++ beyond in
    let text : (digits ++ behind_point decimals) ++ rest ≡ bytes = append_assoc digits (46 ∷ decimals) rest in
    let count : digit_count 12 bytes ≡ length digits = count_is 12 digits beyond h.whole h.few refl in
    let value : digits_of_front 12 bytes ≡ digits_value 10 digits = value_is 12 bytes digits beyond refl count in
    let point : slice_index bytes (digit_count 12 bytes) ≡ 46 = ap (slice_index bytes) count ∙ index_front digits beyond in
    let past : drop (digit_count 12 bytes + 1) bytes ≡ decimals ++ rest = ap (λ (k : ℕ). drop (k + 1) bytes) count ∙ drop_past digits (decimals ++ rest) 46 in
    let more : digit_count 6 (drop (digit_count 12 bytes + 1) bytes) ≡ length decimals = ap (digit_count 6) past ∙ count_is 6 decimals rest h.part h.short f in
    let part : digits_of_front 6 (drop (digit_count 12 bytes + 1) bytes) ≡ digits_value 10 decimals =
    value_is 6 (drop (digit_count 12 bytes + 1) bytes) decimals rest past more in
    let some : 1 ≤ digit_count 6 (drop (digit_count 12 bytes + 1) bytes) = omega (arith, more) in
    let all : digit_count 12 bytes + 1 + digit_count 6 (drop (digit_count 12 bytes + 1) bytes) ≡ length (digits ++ behind_point decimals) =
    omega (arith, count, more, length_and digits (46 ∷ decimals)) in
    ap number_of text ∙ numeral_is bytes
    ∙ numeral_part (digit_count 12 bytes) (slice_index bytes (digit_count 12 bytes)) (digit_count 6 (drop (digit_count 12 bytes + 1) bytes))
    (digits_of_front 12 bytes) (digits_of_front 6 (drop (digit_count 12 bytes + 1) bytes)) (omega (arith, count, h.some)) point some
    ∙ ap (λ (v : ℕ). Ok (
      v * 1000000 + digits_of_front 6 (drop (digit_count 12 bytes + 1) bytes) * 10 ^
          (6 - digit_count 6 (drop (digit_count 12 bytes + 1) bytes)),
      digit_count 12 bytes + 1 + digit_count 6 (drop (digit_count 12 bytes + 1) bytes),
    )) value
    ∙ ap (λ (v : ℕ). Ok (
      digits_value 10 digits * 1000000 + v * 10 ^ (6 - digit_count 6 (drop (digit_count 12 bytes + 1) bytes)),
      digit_count 12 bytes + 1 + digit_count 6 (drop (digit_count 12 bytes + 1) bytes),
    )) part
    ∙ ap (λ (n : ℕ). Ok (
      digits_value 10 digits * 1000000 + digits_value 10 decimals * 10 ^ (6 - n),
      digit_count 12 bytes + 1 + digit_count 6 (drop (digit_count 12 bytes + 1) bytes),
    )) more
    ∙ ap (λ (n : ℕ). Ok (number_value digits decimals, n)) all

-- what is read as a number is written as one
abbrev NumberIn : List ℕ → ℕ → ℕ → Type 0
NumberIn bytes n len =
    (digits : List ℕ) × (decimals : List ℕ) × (rest : List ℕ) × (bytes ≡ (digits ++ behind_point decimals) ++ rest) × IsNumber digits decimals
    × (n ≡ number_value digits decimals) × (len ≡ length (digits ++ behind_point decimals))

ok_or : Result (ℕ × ℕ) ℕ → ℕ × ℕ
ok_or (Ok x) = x
ok_or (Err n) = (n, n)

ok_parts : (a b : ℕ) (r : ℕ × ℕ) → ◌≡◌ {A = Result (ℕ × ℕ) ℕ} (Ok (a, b)) (Ok r) → (a ≡ r.0) × (b ≡ r.1)
unfolding ok_or
ok_parts a b r e = (ap (λ (x : Result (ℕ × ℕ) ℕ). (ok_or x).0) e, ap (λ (x : Result (ℕ × ℕ) ℕ). (ok_or x).1) e)

-- by the digits, by the point and by the decimals
numeral_none : (w p d v u : ℕ) (r : ℕ × ℕ) → numeral w p d v u ≡ Ok r → 1 ≤ w
unfolding numeral
numeral_none zero p d v u r e = absurd cc
numeral_none (suc w) p d v u r e = omega arith

part_none : (d v u w : ℕ) (r : ℕ × ℕ) → cond (nat_eq d 0) (Err (w + 1)) (Ok (v * 1000000 + u * 10 ^ (6 - d), w + 1 + d)) ≡ Ok r
    → (1 ≤ d) × (r.0 ≡ v * 1000000 + u * 10 ^ (6 - d)) × (r.1 ≡ w + 1 + d)
part_none zero v u w r e = absurd cc
part_none (suc d) v u w r e = let f : nat_eq (suc d) 0 ≡ false = grind (arith, nat_tests) in let h =
    ok_parts (v * 1000000 + u * 10 ^ (6 - suc d)) (w + 1 + suc d) r (rw f at e) in (omega arith, sym h.0, sym h.1)

numeral_cases : (w p d v u : ℕ) (r : ℕ × ℕ) → 1 ≤ w → numeral w p d v u ≡ Ok r
    → ((nat_eq p 46 ≡ false) × (r.0 ≡ v * 1000000) × (r.1 ≡ w)) ⊎ ((nat_eq p 46 ≡ true) × (1 ≤ d) × (r.0 ≡ v * 1000000 + u * 10 ^ (6 - d)) × (r.1 ≡ w + 1 + d))
unfolding numeral
numeral_cases zero p d v u r some e = absurd (omega arith)
numeral_cases (suc w) p d v u r some e =
    let z : nat_eq (suc w) 0 ≡ false = grind (arith, nat_tests) in
    (elim (nat_eq p 46) as (λ t. nat_eq p 46 ≡ t
    → cond t (cond (nat_eq d 0) (Err (suc w + 1)) (Ok (v * 1000000 + u * 10 ^ (6 - d), suc w + 1 + d))) (Ok (v * 1000000, suc w)) ≡ Ok r
    → ((nat_eq p 46 ≡ false) × (r.0 ≡ v * 1000000) × (r.1 ≡ suc w))
    ⊎ ((nat_eq p 46 ≡ true) × (1 ≤ d) × (r.0 ≡ v * 1000000 + u * 10 ^ (6 - d)) × (r.1 ≡ suc w + 1 + d))) [
      | true ↦ λ f g. (let h = part_none d v u (suc w) r g in inr (f, h.0, h.1, h.2))
      | false ↦ λ f g. (let h = ok_parts (v * 1000000) (suc w) r g in inl (f, sym h.0, sym h.1))
    ]) refl (rw z at e)

point_split : (rest : List ℕ) → nat_eq (slice_index rest 0) 46 ≡ true → (more : List ℕ) × (rest ≡ 46 ∷ more)
point_split [] e = absurd cc
point_split (r ∷ rest) e = let same : r ≡ 46 = grind (arith, nat_tests) in (rest, ap (λ (k : ℕ). k ∷ rest) same)

behind_some : (ds : List ℕ) → 1 ≤ length ds → behind_point ds ≡ 46 ∷ ds
behind_some [] h = absurd (omega arith)
behind_some (d ∷ ds) h = refl

number_whole : (bytes ds rest : List ℕ) (v len : ℕ) → bytes ≡ ds ++ rest → IsDigits ds → 1 ≤ length ds → length ds ≤ 12 → v ≡ digits_value 10 ds * 1000000
    → len ≡ length ds → NumberIn bytes v len
number_whole bytes ds rest v len e digits some few is long = (
  ds,
  [],
  rest,
  e ∙ ap (λ (l : List ℕ). l ++ rest) (sym (nothing_behind ds)),
  record { some = some; few = few; whole = digits; short = omega arith; part = tt },
  omega (arith, is),
  long ∙ ap length (sym (nothing_behind ds)),
)

number_part : (bytes ds es rest : List ℕ) (v len : ℕ) → bytes ≡ ds ++ (46 ∷ (es ++ rest)) → IsDigits ds → 1 ≤ length ds → length ds ≤ 12 → IsDigits es
    → 1 ≤ length es → length es ≤ 6 → v ≡ number_value ds es → len ≡ length ds + 1 + length es → NumberIn bytes v len
number_part bytes ds es rest v len e digits some few decimals more short is long =
    let text : ds ++ (46 ∷ (es ++ rest)) ≡ (ds ++ behind_point es) ++ rest = sym (append_assoc ds (46 ∷ es) rest)
    ∙ ap (λ (l : List ℕ). (ds ++ l) ++ rest) (sym (behind_some es more)) in
    let all : len ≡ length (ds ++ (46 ∷ es)) = omega (arith, length_and ds (46 ∷ es), long) in (
      ds,
      es,
      rest,
      e ∙ text,
      record { some = some; few = few; whole = digits; short = short; part = decimals },
      is,
      all
          ∙ ap (λ (l : List ℕ). length (ds ++ l)) (sym (behind_some es more)),
    )

pub number_sound : (bytes : List ℕ) (r : ℕ × ℕ) → number_of bytes ≡ Ok r
    → (digits : List ℕ) × (decimals : List ℕ) × (rest : List ℕ) × (bytes ≡ (digits ++ behind_point decimals) ++ rest) × IsNumber digits decimals
    × (r.0 ≡ number_value digits decimals) × (r.1 ≡ length (digits ++ behind_point decimals))
number_sound bytes r e =
    let s = digits_split 12 bytes in
    let ds = s.0 in
    let w = digit_count 12 bytes in
    let is = sym (numeral_is bytes) ∙ e in
    let some : 1 ≤ w =
    numeral_none w (slice_index bytes w) (digit_count 6 (drop (w + 1) bytes)) (digits_of_front 12 bytes) (digits_of_front 6 (drop (w + 1) bytes)) r is in
    let value = value_is 12 bytes ds s.1 s.2 s.4 in
    let point : slice_index bytes w ≡ slice_index s.1 0 = ap (slice_index bytes) s.4 ∙ ap (λ (l : List ℕ). slice_index l (length ds)) s.2
    ∙ index_front ds s.1 in
    elim (numeral_cases w (slice_index bytes w) (digit_count 6 (drop (w + 1) bytes)) (digits_of_front 12 bytes) (digits_of_front 6 (drop (w + 1) bytes)) r some
    is) [
      | inl h ↦ number_whole bytes ds s.1 r.0 r.1 s.2 s.3 (omega (arith, some, s.4)) s.5 (h.1 ∙ ap (λ (v : ℕ). v * 1000000) value) (h.2 ∙ s.4)
      | inr h ↦
          let p = point_split s.1 (ap (λ (k : ℕ). nat_eq k 46) (sym point) ∙ h.0) in
          let text : bytes ≡ ds ++ (46 ∷ p.0) = s.2 ∙ ap (λ (l : List ℕ). ds ++ l) p.1 in
          let past : drop (w + 1) bytes ≡ p.0 = ap (λ (k : ℕ). drop (k + 1) bytes) s.4 ∙ ap (λ (l : List ℕ). drop (length ds + 1) l) text
          ∙ drop_past ds p.0 46 in
          let t = digits_split 6 p.0 in
          let more : digit_count 6 (drop (w + 1) bytes) ≡ length t.0 = ap (digit_count 6) past ∙ t.4 in
          let part = value_is 6 (drop (w + 1) bytes) t.0 t.1 (past ∙ t.2) more in
          number_part bytes ds t.0 t.1 r.0 r.1 (text
          ∙ ap (λ (l : List ℕ). ds ++ (46 ∷ l)) t.2) s.3 (omega (arith, some, s.4)) s.5 t.3 (omega (arith, more, h.1)) t.5
          (h.2 ∙ ap (λ (v : ℕ). v * 1000000 + digits_of_front 6 (drop (w + 1) bytes) * 10 ^ (6 - digit_count 6 (drop (w + 1) bytes))) value
          ∙ ap (λ (v : ℕ). digits_value 10 ds * 1000000 + v * 10 ^ (6 - digit_count 6 (drop (w + 1) bytes))) part
          ∙ ap (λ (n : ℕ). digits_value 10 ds * 1000000 + digits_value 10 t.0 * 10 ^ (6 - n)) more)
          (omega (arith, h.3, s.4, more))
    ]

-- ---- exponents

power : List ℕ → ℕ → ℕ → Result (ℕ × ℕ) ℕ
power bytes l v = cond (nat_eq l 0) (Err 0) (cond (nat_le v 64) (Ok (v, l)) (Ok (slice_index bytes 0 - 48, 1)))

exponent_is : (bytes : List ℕ) → exponent_of bytes ≡ power bytes (digit_count 2 bytes) (digits_of_front 2 bytes)
unfolding exponent_of power
exponent_is bytes = refl

power_small : (bytes : List ℕ) (l v : ℕ) → 1 ≤ l → v ≤ 64 → power bytes l v ≡ Ok (v, l)
unfolding power
power_small bytes l v some le = let f : nat_eq l 0 ≡ false = grind (arith, nat_tests) in let g : nat_le v 64 ≡ true = grind (arith, nat_tests) in rw (f, g) refl

pub exponent_read : (digits rest : List ℕ) → IsExponent digits → first_is is_ascii_digit rest ≡ false
    → exponent_of (digits ++ rest) ≡ Ok (digits_value 10 digits, length digits)
exponent_read digits rest h f =
    let count = count_is 2 digits rest h.whole h.few f in
    let value = value_is 2 (digits ++ rest) digits rest refl count in
    exponent_is (digits ++ rest)
    ∙ power_small (digits ++ rest) (digit_count 2 (digits ++ rest)) (digits_of_front 2 (digits ++ rest)) (omega (arith, count, h.some))
    (omega (arith, value, h.small))
    ∙ ap (λ (v : ℕ). Ok (v, digit_count 2 (digits ++ rest))) value ∙ ap (λ (n : ℕ). Ok (digits_value 10 digits, n)) count

power_sound : (bytes : List ℕ) (l v : ℕ) (r : ℕ × ℕ) → power bytes l v ≡ Ok r
    → (1 ≤ l) × (((v ≤ 64) × (r.0 ≡ v) × (r.1 ≡ l)) ⊎ ((64 < v) × (r.0 ≡ slice_index bytes 0 - 48) × (r.1 ≡ 1)))
unfolding power
power_sound bytes zero v r e = absurd cc
power_sound bytes (suc l) v r e =
    let z : nat_eq (suc l) 0 ≡ false = grind (arith, nat_tests) in (
      omega arith,
      (elim (nat_le v 64) as (λ t. nat_le v 64 ≡ t → cond {A = Result (ℕ × ℕ) ℕ} t (Ok (v, suc l)) (Ok (slice_index bytes 0 - 48, 1)) ≡ Ok r
          → (((v ≤ 64) × (r.0 ≡ v) × (r.1 ≡ suc l)) ⊎ ((64 < v) × (r.0 ≡ slice_index bytes 0 - 48) × (r.1 ≡ 1)))) [
            | true ↦ λ f g. (let h = ok_parts v (suc l) r g in inl (grind (arith, nat_tests), sym h.0, sym h.1))
            | false ↦ λ f g. (let h = ok_parts (slice_index bytes 0 - 48) 1 r g in inr (grind (arith, nat_tests), sym h.0, sym h.1))
          ]) refl (rw z at e),
    )

-- the first digit alone
one_digit : (d : ℕ) → is_ascii_digit d ≡ true → (digits_value 10 (d ∷ []) ≡ d - 48) × (digits_value 10 (d ∷ []) ≤ 64)
one_digit d e = let h = digit_is d e in (omega (arith, h.0, h.1), omega (arith, h.0, h.1))

pub exponent_sound : (bytes : List ℕ) (r : ℕ × ℕ) → exponent_of bytes ≡ Ok r
    → (digits : List ℕ) × (rest : List ℕ) × (bytes ≡ digits ++ rest) × IsExponent digits × (r.0 ≡ digits_value 10 digits) × (r.1 ≡ length digits)
exponent_sound bytes r e =
    let s = digits_split 2 bytes in
    let value = value_is 2 bytes s.0 s.1 s.2 s.4 in
    let h = power_sound bytes (digit_count 2 bytes) (digits_of_front 2 bytes) r (sym (exponent_is bytes) ∙ e) in
    elim h.1 [
      | inl g ↦ (s.0, s.1, s.2, record { some = omega (arith, h.0, s.4); few = s.5; whole = s.3; small = omega (arith, g.0, value) }, g.1 ∙ value, g.2 ∙ s.4)
      | inr g ↦ one s.0 s.1 bytes r s.2 s.3 (omega (arith, h.0, s.4)) g.1 g.2
    ]
  where
    one : (ds rest bytes : List ℕ) (r : ℕ × ℕ) → bytes ≡ ds ++ rest → IsDigits ds → 1 ≤ length ds → r.0 ≡ slice_index bytes 0 - 48 → r.1 ≡ 1
        → (digits : List ℕ) × (rest : List ℕ) × (bytes ≡ digits ++ rest) × IsExponent digits × (r.0 ≡ digits_value 10 digits) × (r.1 ≡ length digits)
    one [] rest bytes r e h some is long = absurd (omega arith)
    one (d ∷ ds) rest bytes r e h some is long =
        let v = one_digit d h.0 in (
          d ∷ [],
          ds ++ rest,
          e,
          record { some = omega arith; few = omega arith; whole = (h.0, tt); small = v.1 },
          is ∙ ap (λ (l : List ℕ). slice_index l 0 - 48) e ∙ sym v.0,
          long,
        )

-- ---- words

front_split : (t bytes : List ℕ) → front_of t bytes ≡ length t → (word : List ℕ) × (rest : List ℕ) × (bytes ≡ word ++ rest) × IsWord t word
front_split [] bytes e = ([], bytes, refl, tt)
front_split (c ∷ cs) [] e = absurd (omega arith)
front_split (c ∷ cs) (b ∷ bs) e =
    (elim (fits_of c b) as (λ x. fits_of c b ≡ x → cond x (suc (front_of cs bs)) 0 ≡ suc (length cs)
    → (word : List ℕ) × (rest : List ℕ) × (b ∷ bs ≡ word ++ rest) × IsWord (c ∷ cs) word) [
      | true ↦ λ f g. (let h = front_split cs bs (omega arith) in (b ∷ h.0, h.1, ap (λ (l : List ℕ). b ∷ l) h.2, (f, h.3)))
      | false ↦ λ f g. absurd (omega arith)
    ]) refl e

abbrev Sane : List Symbol → Allowed → List ℕ → Front → Type 0
Sane all allowed bytes best = (w : Symbol) → best.symbol ≡ Some w
    → (front_of (text_of w) bytes ≡ length (text_of w)) × (best.len ≡ length (text_of w)) × IsAmong w all × (is_allowed_of allowed w ≡ true)

some_is : (v w : Symbol) → ◌≡◌ {A = Option Symbol} (Some v) (Some w) → v ≡ w
some_is v w e = cc

whole_sane : (all : List Symbol) (allowed : Allowed) (bytes : List ℕ) (v : Symbol) → IsAmong v all → is_allowed_of allowed v ≡ true → (t : Bool)
    → nat_eq (front_of (text_of v) bytes) (length (text_of v)) ≡ t
    → Sane all allowed bytes (record { len = front_of (text_of v) bytes; symbol = cond t (Some v) None })
whole_sane all allowed bytes v among may true e w g =
    let same = some_is v w g in
    let is : front_of (text_of v) bytes ≡ length (text_of v) = grind (arith, nat_tests) in (
      subst (λ (x : Symbol). front_of (text_of x) bytes ≡ length (text_of x)) same is,
      is
          ∙ ap (λ (x : Symbol). length (text_of x)) same,
      subst (λ (x : Symbol). IsAmong x all) same among,
      subst (λ (x : Symbol). is_allowed_of allowed x ≡ true) same may,
    )
whole_sane all allowed bytes v among may false e w g = absurd cc

better_sane : (all : List Symbol) (allowed : Allowed) (bytes : List ℕ) (best : Front) (v : Symbol) → Sane all allowed bytes best → IsAmong v all
    → is_allowed_of allowed v ≡ true → Sane all allowed bytes (better_of best v bytes)
better_sane all allowed bytes best v h among may =
    by_test (nat_lt best.len (front_of (text_of v) bytes)
    || (nat_eq best.len (front_of (text_of v) bytes) && nat_eq (front_of (text_of v) bytes) (length (text_of v))))
  where
    by_test : (t : Bool)
        → Sane all allowed bytes (cond t (record {
          len = front_of (text_of v) bytes;
          symbol =
              cond (nat_eq (front_of (text_of v) bytes) (length (text_of v))) (Some v) None;
        }) best)
    by_test true = whole_sane all allowed bytes v among may (nat_eq (front_of (text_of v) bytes) (length (text_of v))) refl
    by_test false = h

longest_sane : (all : List Symbol) (allowed : Allowed) (bytes : List ℕ) (ws : List Symbol) (best : Front) → ((v : Symbol) → IsAmong v ws → IsAmong v all)
    → Sane all allowed bytes best → Sane all allowed bytes (longest_from best allowed ws bytes)
longest_sane all allowed bytes [] best sub h = h
longest_sane all allowed bytes (v ∷ vs) best sub h =
    (elim (is_allowed_of allowed v) as (λ t. is_allowed_of allowed v ≡ t
    → Sane all allowed bytes (longest_from (cond t (better_of best v bytes) best) allowed vs bytes)) [
      | true ↦ λ e. longest_sane all allowed bytes vs (better_of best v bytes) (λ u g. sub u (inr g))
          (better_sane all allowed bytes best v h (sub v (inl refl)) e)
      | false ↦ λ e. longest_sane all allowed bytes vs best (λ u g. sub u (inr g)) h
    ]) refl

-- ---- tokens

-- how a token is written
abbrev pub IsLexeme : Token → List ℕ → Type 0
IsLexeme (token.Word w) bytes = IsWord (text_of w) bytes
IsLexeme (token.Number n) bytes =
    (digits : List ℕ) × (decimals : List ℕ) × (bytes ≡ digits ++ behind_point decimals) × IsNumber digits decimals × (n ≡ number_value digits decimals)
IsLexeme (token.Exponent n) bytes = IsExponent bytes × (n ≡ digits_value 10 bytes)

-- where a token may stand
abbrev pub May : Expect → List Frame → Bool → Place → Token → Type 0
May e frames quoted p (token.Word w) = IsAmong w (words_for e p) × (is_allowed_of (allowed_for e frames quoted) w ≡ true)
May e frames quoted p (token.Number n) = (takes_number e ≡ true) × ¬ IsRaised e
May e frames quoted p (token.Exponent n) = IsRaised e

-- what may not follow a token, since it would be longer with it
abbrev pub Ends : Token → List ℕ → Type 0
Ends (token.Word w) rest = is_open w ≡ true → first_is (nat_eq 61) rest ≡ false
Ends (token.Number n) rest = (first_is is_ascii_digit rest ≡ false) × (first_is (λ b. nat_eq b 46) rest ≡ false)
Ends (token.Exponent n) rest = first_is is_ascii_digit rest ≡ false

digit_dark : (d : ℕ) → is_ascii_digit d ≡ true → is_blank_of d ≡ false
digit_dark d e = let h = digit_is d e in grind (arith, nat_tests)

digits_first : (ds rest : List ℕ) → 1 ≤ length ds → IsDigits ds
    → (is_ascii_digit (slice_index (ds ++ rest) 0) ≡ true) × (first_is is_blank_of (ds ++ rest) ≡ false)
digits_first [] rest some h = absurd (omega arith)
digits_first (d ∷ ds) rest some h = (h.0, digit_dark d h.0)

raised_token : (e : Expect) (frames : List Frame) (quoted : Bool) (p : Place) (bytes : List ℕ) → IsRaised e
    → token_from e frames quoted p bytes ≡ exponent_found (exponent_of bytes)
unfolding token_from
raised_token (expect.Exponent at) frames quoted p bytes h = refl
raised_token e frames quoted p bytes h = absurd h

-- what is written as a token that may stand there is read as it
pub token_read : (e : Expect) (frames : List Frame) (quoted : Bool) (p : Place) (t : Token) (bytes rest : List ℕ) → May e frames quoted p t → IsLexeme t bytes
    → Ends t rest → token_from e frames quoted p (bytes ++ rest) ≡ Ok (found t (length bytes))
token_read e frames quoted p (token.Word w) bytes rest may is ends = word_token e frames quoted p w bytes rest may.0 may.1 is ends
token_read e frames quoted p (token.Number n) bytes rest may is ends =
    let digits = is.0 in
    let decimals = is.1 in
    let text : bytes ++ rest ≡ (digits ++ behind_point decimals) ++ rest = ap (λ (l : List ℕ). l ++ rest) is.2 in
    let first = (digits_first digits (behind_point decimals ++ rest) is.3.some is.3.whole).0 in
    let digit : is_ascii_digit (slice_index (bytes ++ rest) 0) ≡ true =
    ap (λ (l : List ℕ). is_ascii_digit (slice_index l 0)) (text ∙ append_assoc digits (behind_point decimals) rest) ∙ first in
    let test : takes_number e && is_ascii_digit (slice_index (bytes ++ rest) 0) ≡ true = rw (may.0, digit) refl in
    token_is e frames quoted p (bytes ++ rest) may.1
    ∙ ap (λ (b : Bool). token_by b e frames quoted p (bytes ++ rest)) test
    ∙ ap (λ (l : List ℕ). number_found (number_of l)) text
    ∙ ap number_found (number_read digits decimals rest is.3 ends.0 ends.1)
    ∙ ap (λ (v : ℕ). Ok (found (token.Number v) (length (digits ++ behind_point decimals)))) (sym is.4)
    ∙ ap (λ (l : List ℕ). Ok (found (token.Number n) (length l))) (sym is.2)
token_read e frames quoted p (token.Exponent n) bytes rest may is ends =
    raised_token e frames quoted p (bytes ++ rest) may ∙ ap exponent_found (exponent_read bytes rest is.0 ends)
    ∙ ap (λ (v : ℕ). Ok (found (token.Exponent v) (length bytes))) (sym is.1)

word_some : (t bytes : List ℕ) → first_is dark t ≡ true → IsWord t bytes → 1 ≤ length bytes
word_some [] bytes h f = absurd cc
word_some (c ∷ cs) [] h f = absurd f
word_some (c ∷ cs) (b ∷ bs) h f = omega arith

-- a token is written in one byte or more, and begins with no blank
pub token_dark : (e : Expect) (frames : List Frame) (quoted : Bool) (p : Place) (t : Token) (bytes rest : List ℕ) → May e frames quoted p t → IsLexeme t bytes
    → (1 ≤ length bytes) × (first_is is_blank_of (bytes ++ rest) ≡ false)
token_dark e frames quoted p (token.Word w) bytes rest may is =
    let d = among_all dark_of (words_for e p) w (words_clear e p).1 may.0 in
    (word_some (text_of w) bytes d is, (word_dark w (text_of w) bytes rest d is).1)
token_dark e frames quoted p (token.Number n) bytes rest may is =
    let digits = is.0 in
    let decimals = is.1 in
    let first = (digits_first digits (behind_point decimals ++ rest) is.3.some is.3.whole).1 in (
      omega (arith, is.3.some, length_and digits (behind_point decimals), ap length is.2),
      ap (λ (l : List ℕ). first_is is_blank_of (l ++ rest)) is.2
          ∙ ap (first_is is_blank_of) (append_assoc digits (behind_point decimals) rest) ∙ first,
    )
token_dark e frames quoted p (token.Exponent n) bytes rest may is = (is.0.some, (digits_first bytes rest is.0.some is.0.whole).1)

-- what is read is written so
abbrev pub TokenIn : Expect → List Frame → Bool → Place → List ℕ → Found → Type 0
TokenIn e frames quoted p bytes f =
    (lexeme : List ℕ) × (rest : List ℕ) × (bytes ≡ lexeme ++ rest) × IsLexeme f.token lexeme × (f.len ≡ length lexeme) × May e frames quoted p f.token

found_is : (t : Token) (n : ℕ) (f : Found) → ◌≡◌ {A = Result Found ℕ} (Ok (found t n)) (Ok f) → found t n ≡ f
found_is t n f e = cc

exponent_in : (e : Expect) (frames : List Frame) (quoted : Bool) (p : Place) (bytes : List ℕ) (f : Found) (r : Result (ℕ × ℕ) ℕ) → IsRaised e
    → exponent_of bytes ≡ r → exponent_found r ≡ Ok f → TokenIn e frames quoted p bytes f
exponent_in e frames quoted p bytes f (Err n) h g k = absurd cc
exponent_in e frames quoted p bytes f (Ok r) h g k =
    let s = exponent_sound bytes r g in
    subst (TokenIn e frames quoted p bytes) (found_is (token.Exponent r.0) r.1 f k) (s.0, s.1, s.2, (s.3, s.4), s.5, h)

number_in : (e : Expect) (frames : List Frame) (quoted : Bool) (p : Place) (bytes : List ℕ) (f : Found) (r : Result (ℕ × ℕ) ℕ) → ¬ IsRaised e
    → takes_number e ≡ true → number_of bytes ≡ r → number_found r ≡ Ok f → TokenIn e frames quoted p bytes f
number_in e frames quoted p bytes f (Err n) plain h g k = absurd cc
number_in e frames quoted p bytes f (Ok r) plain h g k =
    let s = number_sound bytes r g in
    subst (TokenIn e frames quoted p bytes) (found_is (token.Number r.0) r.1 f k) (
      s.0 ++ behind_point s.1,
      s.2,
      s.3,
      (s.0, s.1, refl, s.4, s.5),
      s.6,
      (h, plain),
    )

word_in : (e : Expect) (frames : List Frame) (quoted : Bool) (p : Place) (bytes : List ℕ) (f : Found) (o : Option Symbol) (n : ℕ)
    → (longest_of (allowed_for e frames quoted) (words_for e p) bytes).symbol ≡ o → n ≡ (longest_of (allowed_for e frames quoted) (words_for e p) bytes).len
    → word_found o n ≡ Ok f → TokenIn e frames quoted p bytes f
unfolding longest_of
word_in e frames quoted p bytes f None n g l k = absurd cc
word_in e frames quoted p bytes f (Some w) n g l k =
    let h = longest_sane (words_for e p) (allowed_for e frames quoted) bytes (words_for e p) no_front (λ v a. a) (λ w e. absurd cc) w g in
    let s = front_split (text_of w) bytes h.0 in
    subst (TokenIn e frames quoted p bytes) (found_is (token.Word w) n f k) (s.0, s.1, s.2, s.3, l ∙ h.1 ∙ sym (word_long (text_of w) s.0 s.3), (h.2, h.3))

raised_or : (e : Expect) → IsRaised e ⊎ ¬ IsRaised e
raised_or (expect.Exponent at) = inl tt
raised_or e = inr (λ h. h)

pub token_sound : (e : Expect) (frames : List Frame) (quoted : Bool) (p : Place) (bytes : List ℕ) (f : Found) → token_from e frames quoted p bytes ≡ Ok f
    → (lexeme : List ℕ) × (rest : List ℕ) × (bytes ≡ lexeme ++ rest) × IsLexeme f.token lexeme × (f.len ≡ length lexeme) × May e frames quoted p f.token
token_sound e frames quoted p bytes f h =
    elim (raised_or e) [
      | inl r ↦ exponent_in e frames quoted p bytes f (exponent_of bytes) r refl (sym (raised_token e frames quoted p bytes r) ∙ h)
      | inr plain ↦
          (elim (takes_number e && is_ascii_digit (slice_index bytes 0)) as (λ t. takes_number e && is_ascii_digit (slice_index bytes 0) ≡ t
          → token_by t e frames quoted p bytes ≡ Ok f → TokenIn e frames quoted p bytes f) [
            | true ↦ λ g k. number_in e frames quoted p bytes f (number_of bytes) plain (both (takes_number e) (is_ascii_digit (slice_index bytes 0)) g).0 refl
                k
            | false ↦ λ g k. word_in e frames quoted p bytes f (longest_of (allowed_for e frames quoted) (words_for e p) bytes).symbol
                (longest_of (allowed_for e frames quoted) (words_for e p) bytes).len refl refl k
          ]) refl (sym (token_is e frames quoted p bytes plain) ∙ h)
    ]
