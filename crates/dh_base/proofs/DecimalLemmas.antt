-- Digits and the numbers that they write.
use Rattle.std.proofs.Common.{◌≡◌, ◌∙◌, ℕ, zero, suc, ◌+◌, ◌*◌, ◌/◌, ◌%◌, ◌-◌, ◌<◌, ◌≤◌, ◌^◌, Bool, true, false, List, [], ◌∷◌, length, take, drop, get_or}
use Rattle.std.proofs.Common.{add-one, refl, sym, ap, subst, arith}
use Rattle.std.specs.Prelude.{Option, Some, None, option_map, position, if◌then◌else◌, neg_ℤ, pos}
use Rattle.std.proofs.Common.{length-drop, length-take, nat_lt, nat_eq}
use Rattle.std.proofs.lemmas.Bool.{ltb-true, ltb-false}
use Rattle.dh_base.specs.Decimals.{digits_of, decimals_of, size_of, split_at, is_point, both, decimal_of, has_minus, decimals, with_point}
use Rattle.std.specs.List.{list_all}
use Rattle.std.specs.Char.{is_ascii_digit, digit_value}
use Rattle.std.specs.Str.Parse.{digits_value, AllDigits}
use Rattle.std.proofs.Math.Nat.{pow-le-pow_right, pow-suc, one-le-pow, mul-le-mul_right, div-lt_iff_lt-mul, mul_comm, mul_assoc}
use Rattle.std.proofs.lemmas.Nat.{pow-add}
use Rattle.std.proofs.lemmas.Bool.Decides.{nat_tests}
use Rattle.std.proofs.lemmas.Bool.{and_parts}
use Rattle.std.proofs.lemmas.List.Folds.{list_all_at}
use Rattle.std.proofs.lemmas.Int.Digits.{digits_value_more}

pub record IsDigit (c : ℕ) : Type 0 where
  pub low : 48 ≤ c
  pub high : c ≤ 57
  pub value : digit_value c ≡ c - 48
  pub below : digit_value c < 10

pub digit_from : (c : ℕ) → is_ascii_digit c ≡ true → IsDigit c
digit_from c h = record {
  low = grind (arith, nat_tests);
  high = grind (arith, nat_tests);
  value = grind (arith, nat_tests);
  below = grind (arith, nat_tests);
}

pub digit_at : (xs : List ℕ) (i : ℕ) → list_all is_ascii_digit xs ≡ true → i < length xs → IsDigit (get_or xs i 0)
digit_at xs i all within = digit_from (get_or xs i 0) (tested (is_ascii_digit (get_or xs i 0)) refl)
  where
    tested : (t : Bool) → is_ascii_digit (get_or xs i 0) ≡ t → is_ascii_digit (get_or xs i 0) ≡ true
    tested true e = e
    tested false e = let no : list_all is_ascii_digit xs ≡ false = list_all_at is_ascii_digit xs i 0 within e in let clash : true ≡ false = sym all ∙ no in cc

pub all_digits : (xs : List ℕ) → list_all is_ascii_digit xs ≡ true → AllDigits 10 xs
all_digits [] h = tt
all_digits (c ∷ cs) h =
    let parts = and_parts (is_ascii_digit c) (list_all is_ascii_digit cs) h in
    ((digit_from c parts.0).below, all_digits cs parts.1)

pub power_within : (i j : ℕ) → i ≤ j → 10 ^ i ≤ 10 ^ j
power_within i j h = pow-le-pow_right {n = 10} (omega arith) h

pub power_more : (i : ℕ) → 10 ^ (i + 1) ≡ 10 ^ i * 10
power_more i = rw add-one (pow-suc 10 i)

-- digits after the point count for less than a whole
pub weighed : (v n : ℕ) → v < 10 ^ n → n ≤ 6 → v * 10 ^ (6 - n) < 1000000
weighed v n bound short =
    let all : n + (6 - n) ≡ 6 = omega arith in
    let whole : 10 ^ n * 10 ^ (6 - n) ≡ 1000000 = sym (pow-add 10 n (6 - n)) ∙ ap (λ k. 10 ^ k) all in
    let some : 1 ≤ 10 ^ (6 - n) = one-le-pow (6 - n) 10 (omega arith) in
    let next : v + 1 ≤ 10 ^ n = omega (arith, bound) in
    let scaled : (v + 1) * 10 ^ (6 - n) ≤ 10 ^ n * 10 ^ (6 - n) = mul-le-mul_right (10 ^ (6 - n)) next in
    omega (arith, whole, some, scaled)

pub value_step : (xs : List ℕ) (i v : ℕ) → list_all is_ascii_digit xs ≡ true → i < length xs → v ≡ digits_value 10 (take i xs)
    → v * 10 + (get_or xs i 0 - 48) ≡ digits_value 10 (take (i + 1) xs)
value_step xs i v all within e =
    ap (λ n. n * 10 + (get_or xs i 0 - 48)) e ∙ ap (λ d. digits_value 10 (take i xs) * 10 + d) (sym (digit_at xs i all within).value)
    ∙ sym (digits_value_more 10 xs i within)

-- ---- long texts

digits_of-long : (most : ℕ) (text : List ℕ) → most < length text → digits_of most text ≡ None
unfolding digits_of
digits_of-long most text long = grind (arith, nat_tests)

pub size_of-long : (text : List ℕ) → 19 < length text → size_of text ≡ None
unfolding size_of
size_of-long text long = split (position is_point text)
  where
    split : (place : Option ℕ) → split_at place text ≡ None
    split None = ap (option_map (λ whole. whole * 1000000)) (digits_of-long 12 text (omega arith))
    split (Some place) = by_front place (nat_lt 12 (length (take place text))) refl
      where
        no_front : (rest : Option ℕ) (front : Option ℕ) → front ≡ None → both front rest ≡ None
        no_front rest front e = ap (λ o. both o rest) e

        no_rest : (front : Option ℕ) → both front None ≡ None
        no_rest (Some n) = refl
        no_rest None = refl

        by_front : (place : ℕ) (t : Bool) → nat_lt 12 (length (take place text)) ≡ t
            → both (digits_of 12 (take place text)) (decimals_of (drop (place + 1) text)) ≡ None
        by_front place true e = no_front _ _ (digits_of-long 12 (take place text) (ltb-true _ _ e))
        by_front place false e =
            let short : length (take place text) ≤ 12 = ltb-false _ _ e in
            let rest : 6 < length (drop (place + 1) text) = omega (arith, length-drop (place + 1) text, length-take place text, short) in
            ap (λ o. both (digits_of 12 (take place text)) (option_map (λ n. n * 10 ^ (6 - length (drop (place + 1) text))) o))
            (digits_of-long 6 (drop (place + 1) text) rest) ∙ no_rest (digits_of 12 (take place text))

pub decimal_of-long : (text : List ℕ) → 20 < length text → decimal_of text ≡ None
unfolding decimal_of
decimal_of-long text long = signed (has_minus text)
  where
    signed : (b : Bool) → (if b then option_map (λ n. neg_ℤ (pos n)) (size_of (drop 1 text)) else option_map pos (size_of text)) ≡ None
    signed true = ap (option_map (λ n. neg_ℤ (pos n))) (size_of-long (drop 1 text) (omega (arith, length-drop 1 text)))
    signed false = ap (option_map pos) (size_of-long text (omega arith))

-- ---- the digits after the point

pub decimals_none : (p : ℕ) → decimals p 0 ≡ []
unfolding decimals
decimals_none zero = refl
decimals_none (suc p) = refl

pub decimals_step : (p n : ℕ) → 0 < p → 0 < n → decimals p n ≡ (48 + n / 10 ^ (p - 1)) ∷ decimals (p - 1) (n % 10 ^ (p - 1))
unfolding decimals
decimals_step zero n some more = absurd (omega arith)
decimals_step (suc p) n some more =
    let e : suc p - 1 ≡ p = omega arith in
    rw (e, not_zero) refl
  where
    not_zero : nat_eq n 0 ≡ false
    not_zero = grind (arith, nat_tests)

pub decimals_more : (p r : ℕ) → decimals (suc p) (suc r) ≡ (48 + suc r / 10 ^ p) ∷ decimals p (suc r % 10 ^ p)
decimals_more p r =
    let e : suc p - 1 ≡ p = omega arith in
    decimals_step (suc p) (suc r) (omega arith) (omega arith) ∙ ap (λ k. (48 + suc r / 10 ^ k) ∷ decimals k (suc r % 10 ^ k)) e

pub digit_below : (p n : ℕ) → 0 < p → n < 10 ^ p → n / 10 ^ (p - 1) < 10
digit_below zero n some below = absurd (omega arith)
digit_below (suc p) n some below =
    let e : suc p - 1 ≡ p = omega arith in
    let big : n < 10 * 10 ^ p = subst (λ k. n < k) (pow-suc 10 p ∙ mul_comm (10 ^ p) 10) below in
    rw e ((div-lt_iff_lt-mul (one-le-pow p 10 (omega arith))).1 big)

pub power_positive : (p : ℕ) → 0 < 10 ^ p
power_positive p = omega (arith, one-le-pow p 10 (omega arith))

pub rest_below : (p n : ℕ) → n % 10 ^ p < 10 ^ p
rest_below p n = let some : 1 ≤ 10 ^ p = one-le-pow p 10 (omega arith) in omega (arith, some)

pub some_places : (p n : ℕ) → n < 10 ^ p → 0 < n → 0 < p
some_places zero n below some = let e : 10 ^ 0 ≡ 1 = refl in absurd (omega arith)
some_places (suc p) n below some = omega arith

-- one more digit of a quotient
pub divided_more : (digits left digit after den rest i : ℕ) → digits * den + left ≡ rest * 10 ^ i → digit * den + after ≡ left * 10
    → (digits * 10 + digit) * den + after ≡ rest * 10 ^ (i + 1)
divided_more digits left digit after den rest i p q =
    let e : rest * 10 ^ (i + 1) ≡ rest * 10 ^ i * 10 = ap (λ k. rest * k) (power_more i) ∙ sym (mul_assoc rest (10 ^ i) 10) in
    omega (arith, p, q, e)

-- a number with decimals has a point before them
pub pointed : (p n : ℕ) → n < 10 ^ p → 0 < n → with_point (decimals p n) ≡ 46 ∷ decimals p n
pointed p n below some = rw (decimals_step p n (some_places p n below some) some) refl
