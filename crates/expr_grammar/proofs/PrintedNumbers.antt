-- What is printed of a number and of an exponent is written as a number and an exponent, of the same value.
use Rattle.std.proofs.Common.{◌≡◌, ℕ, zero, suc, ◌+◌, ◌-◌, ◌*◌, ◌/◌, ◌%◌, ◌^◌, ◌<◌, ◌≤◌, Bool, true, false, cond, List, [], ◌∷◌, ◌++◌, length, refl, sym, ap}
use Rattle.std.proofs.Common.{subst, ◌∙◌, arith}
use Rattle.std.specs.Prelude.{nat_eq, nat_lt}
use Rattle.std.specs.Char.{is_ascii_digit, digit_value}
use Rattle.std.specs.Fmt.{decimal}
use Rattle.std.specs.Str.Parse.{AllDigits, digits_value, digits_value_after}
use Rattle.std.proofs.Math.Nat.{pow-suc, div-lt_iff_lt-mul}
use Rattle.std.proofs.lemmas.Bool.Decides.{nat_tests}
use Rattle.std.proofs.lemmas.Fmt.{decimal_is_IsNumeral, length-decimal-le}
use Rattle.std.proofs.lemmas.Int.Digits.{digits_value-lt}
use Rattle.expr_lang.specs.Print.{number_text, decimals_text, exponent_text}
use Rattle.expr_grammar.specs.Grammar.{IsDigits, IsNumber, IsExponent, behind_point, number_value}

-- ---- digits

pub digit_is : (b : ℕ) → is_ascii_digit b ≡ true → (digit_value b ≡ b - 48) × (b - 48 < 10) × (48 ≤ b)
digit_is b h = (grind (arith, nat_tests), grind (arith, nat_tests), grind (arith, nat_tests))

glyph : (d : ℕ) → d < 10 → (is_ascii_digit (48 + d) ≡ true) × (digit_value (48 + d) ≡ d)
glyph d h = let e : is_ascii_digit (48 + d) ≡ true = grind (arith, nat_tests) in (e, omega (arith, digit_is (48 + d) e))

pub all_digits : (ds : List ℕ) → IsDigits ds → AllDigits 10 ds
all_digits [] h = tt
all_digits (d ∷ ds) h = (omega (arith, digit_is d h.0), all_digits ds h.1)

value_digit : (d : ℕ) → digit_value d < 10 → is_ascii_digit d ≡ true
value_digit d h = grind (arith, nat_tests)

pub are_digits : (ds : List ℕ) → AllDigits 10 ds → IsDigits ds
are_digits [] h = tt
are_digits (d ∷ ds) h = (value_digit d h.0, are_digits ds h.1)

-- ---- powers of ten

pub ten_more : (n : ℕ) → 10 ^ suc n ≡ 10 ^ n * 10
ten_more n = pow-suc 10 n

pub tens_some : (k : ℕ) → 0 < 10 ^ k
tens_some zero = omega arith
tens_some (suc k) = omega (arith, ten_more k, tens_some k)

tens_both : (m k : ℕ) → 10 ^ (m + k) ≡ 10 ^ m * 10 ^ k
tens_both zero k = let e : zero + k ≡ k = omega arith in rw e (omega arith)
tens_both (suc m) k = let e : suc m + k ≡ suc (m + k) = omega arith in ap (λ (n : ℕ). 10 ^ n) e ∙ ten_more (m + k)
    ∙ omega (arith, ap (λ (x : ℕ). x * 10) (tens_both m k), ap (λ (x : ℕ). x * 10 ^ k) (ten_more m))

pub tens_apart : (k n : ℕ) → n ≤ k → 10 ^ n * 10 ^ (k - n) ≡ 10 ^ k
tens_apart k n le = let e : n + (k - n) ≡ k = omega arith in sym (tens_both n (k - n)) ∙ ap (λ (m : ℕ). 10 ^ m) e

-- ---- values

pub value_behind : (n : ℕ) (ds : List ℕ) → digits_value_after 10 n ds ≡ n * 10 ^ length ds + digits_value_after 10 0 ds
value_behind n [] = omega arith
value_behind n (d ∷ ds) =
    omega (arith, value_behind (n * 10 + digit_value d) ds, value_behind (0 * 10 + digit_value d) ds, ap (λ (x : ℕ). n * x) (ten_more (length ds)))

-- ---- after the point

digit_below : (k n : ℕ) → n < 10 ^ suc k → n / 10 ^ k < 10
digit_below k n lt = below (10 ^ k) n (tens_some k) (omega (arith, ten_more k))
  where
    below : (d m : ℕ) → 0 < d → m < d * 10 → m / d < 10
    below d m some lt = (div-lt_iff_lt-mul some).1 (omega arith)

part_below : (k n : ℕ) → n % 10 ^ k < 10 ^ k
part_below k n = omega (arith, tens_some k)

pub one_place : (k n : ℕ) → nat_eq n 0 ≡ false → decimals_text (suc k) n ≡ (48 + n / 10 ^ k) ∷ decimals_text k (n % 10 ^ k)
one_place k n e = rw e refl

pub no_place : (k n : ℕ) → nat_eq n 0 ≡ true → decimals_text (suc k) n ≡ []
no_place k n e = rw e refl

abbrev IsPart : ℕ → ℕ → List ℕ → Type 0
IsPart k n ds = (length ds ≤ k) × IsDigits ds × (digits_value 10 ds * 10 ^ (k - length ds) ≡ n)

more_part : (k n d r : ℕ) (ds : List ℕ) → d < 10 → n ≡ d * 10 ^ k + r → IsPart k r ds → IsPart (suc k) n ((48 + d) ∷ ds)
more_part k n d r ds small is h =
    let g = glyph d small in
    let e : suc k - suc (length ds) ≡ k - length ds = omega arith in
    let v : digits_value 10 ((48 + d) ∷ ds) ≡ d * 10 ^ length ds + digits_value 10 ds = value_behind (0 * 10 + digit_value (48 + d)) ds
    ∙ ap (λ (x : ℕ). x * 10 ^ length ds + digits_value_after 10 0 ds) (omega (arith, g.1)) in (
      omega (arith, h.0),
      (g.0, h.1),
      ap (λ (x : ℕ). digits_value 10 ((48 + d) ∷ ds) * 10 ^ x) e
          ∙ ap (λ (x : ℕ). x * 10 ^ (k - length ds)) v
          ∙ omega (arith, h.2, ap (λ (x : ℕ). d * x) (tens_apart k (length ds) h.0))
          ∙ sym is,
    )

div_parts : (p n : ℕ) → 0 < p → n ≡ n / p * p + n % p
div_parts p n h = omega arith

part_by : (t : Bool) (k n : ℕ) → nat_eq n 0 ≡ t → n < 10 ^ suc k → IsPart k (n % 10 ^ k) (decimals_text k (n % 10 ^ k))
    → IsPart (suc k) n (decimals_text (suc k) n)
part_by true k n e h p = let z : n ≡ 0 = grind (arith, nat_tests) in subst (IsPart (suc k) n) (sym (no_place k n e)) (omega arith, tt, omega arith)
part_by false k n e h p =
    subst (IsPart (suc k) n) (sym (one_place k n e))
    (more_part k n (n / 10 ^ k) (n % 10 ^ k) (decimals_text k (n % 10 ^ k)) (digit_below k n h) (div_parts (10 ^ k) n (tens_some k)) p)

pub part_is : (k n : ℕ) → n < 10 ^ k → IsPart k n (decimals_text k n)
part_is zero n h = (omega arith, tt, omega arith)
part_is (suc k) n h = part_by (nat_eq n 0) k n refl h (part_is k (n % 10 ^ k) (part_below k n))

-- ---- numbers

abbrev pub whole_digits : ℕ → List ℕ
whole_digits n = decimal (n / 1000000)

abbrev pub part_digits : ℕ → List ℕ
part_digits n = decimals_text 6 (n % 1000000)

point_some : (k n : ℕ) → nat_eq n 0 ≡ false → behind_point (decimals_text (suc k) n) ≡ 46 ∷ decimals_text (suc k) n
point_some k n e = ap behind_point (one_place k n e) ∙ ap (λ (l : List ℕ). 46 ∷ l) (sym (one_place k n e))

point_is : (k n : ℕ) → cond (nat_eq n 0) [] (46 ∷ decimals_text (suc k) n) ≡ behind_point (decimals_text (suc k) n)
point_is k n = by_test (nat_eq n 0) refl
  where
    by_test : (t : Bool) → nat_eq n 0 ≡ t → cond (nat_eq n 0) [] (46 ∷ decimals_text (suc k) n) ≡ behind_point (decimals_text (suc k) n)
    by_test true e = ap (λ (t : Bool). cond t [] (46 ∷ decimals_text (suc k) n)) e ∙ sym (ap behind_point (no_place k n e))
    by_test false e = ap (λ (t : Bool). cond t [] (46 ∷ decimals_text (suc k) n)) e ∙ sym (point_some k n e)

pub number_is : (n : ℕ) → number_text n ≡ whole_digits n ++ behind_point (part_digits n)
unfolding number_text
number_is n = ap (λ (l : List ℕ). decimal (n / 1000000) ++ l) (point_is 5 (n % 1000000))

pub whole_below : (ds : List ℕ) → length ds ≤ 12 → IsDigits ds → digits_value 10 ds < 1000000000000
whole_below ds few h =
    omega (
      arith,
      digits_value-lt 10 ds (all_digits ds h),
      tens_apart 12 (length ds) few,
      tens_some (12 - length ds),
      mono (10 ^ length ds) (10 ^ (12 - length ds)) (tens_some (12 - length ds)),
    )
  where
    mono : (a b : ℕ) → 0 < b → a ≤ a * b
    mono a zero h = omega arith
    mono a (suc b) h = omega arith

pub scaled_below : (a b c : ℕ) → a < b → 0 < c → a * c < b * c
scaled_below a b zero h some = omega arith
scaled_below a b (suc c) h some = by_next c (scaled_below a b c h)
  where
    by_next : (c : ℕ) → (0 < c → a * c < b * c) → a * suc c < b * suc c
    by_next zero g = omega arith
    by_next (suc c) g = omega (arith, g (omega arith))

pub part_small : (k : ℕ) (ds : List ℕ) → length ds ≤ k → IsDigits ds → digits_value 10 ds * 10 ^ (k - length ds) < 10 ^ k
part_small k ds few h =
    omega (
      arith,
      scaled_below (digits_value 10 ds) (10 ^ length ds) (10 ^ (k - length ds)) (digits_value-lt 10 ds (all_digits ds h))
          (tens_some (k - length ds)),
      tens_apart k (length ds) few,
    )

pub value_below : (digits decimals : List ℕ) → IsNumber digits decimals → number_value digits decimals / 1000000 < 1000000000000
value_below digits decimals h =
    divided (digits_value 10 digits) (digits_value 10 decimals * 10 ^ (6 - length decimals)) (whole_below digits h.few h.whole)
    (part_small 6 decimals h.short h.part)
  where
    divided : (a b : ℕ) → a < 1000000000000 → b < 1000000 → (a * 1000000 + b) / 1000000 < 1000000000000
    divided a b h k = omega arith

pub number_written : (n : ℕ) → n / 1000000 < 1000000000000 → IsNumber (whole_digits n) (part_digits n)
number_written n h =
    let k = decimal_is_IsNumeral (n / 1000000) (omega arith) in
    let p = part_is 6 (n % 1000000) (omega arith) in
    record {
      some = omega (arith, k.0.0);
      few = length-decimal-le 12 (n / 1000000) (omega arith) (omega arith) (omega arith);
      whole = are_digits (decimal (n / 1000000)) k.0.1;
      short = p.0;
      part = p.1;
    }

pub number_again : (n : ℕ) → n / 1000000 < 1000000000000 → number_value (whole_digits n) (part_digits n) ≡ n
number_again n h =
    let k = decimal_is_IsNumeral (n / 1000000) (omega arith) in
    let p = part_is 6 (n % 1000000) (omega arith) in
    ap (λ (x : ℕ). x * 1000000 + digits_value 10 (part_digits n) * 10 ^ (6 - length (part_digits n))) k.1
    ∙ ap (λ (x : ℕ). n / 1000000 * 1000000 + x) p.2
    ∙ omega arith

-- ---- exponents

exponent_by : (t : Bool) (n : ℕ) → nat_lt n 10 ≡ t → n ≤ 64 → IsExponent (exponent_text n) × (digits_value 10 (exponent_text n) ≡ n)
exponent_by true n e h =
    let small : n < 10 = grind (arith, nat_tests) in
    let g = glyph n small in
    let v : digits_value 10 ((48 + n) ∷ []) ≡ n = omega (arith, g.1) in
    subst (λ (ds : List ℕ). IsExponent ds × (digits_value 10 ds ≡ n))
    (sym (ap (λ (t : Bool). cond t ((48 + n) ∷ []) ((48 + n / 10 % 10) ∷ (48 + n % 10) ∷ [])) e))
    (record { some = omega arith; few = omega arith; whole = (g.0, tt); small = omega (arith, v) }, v)
exponent_by false n e h =
    let a = glyph (n / 10 % 10) (omega arith) in
    let b = glyph (n % 10) (omega arith) in
    let v : digits_value 10 ((48 + n / 10 % 10) ∷ (48 + n % 10) ∷ []) ≡ n = omega (arith, a.1, b.1) in
    subst (λ (ds : List ℕ). IsExponent ds × (digits_value 10 ds ≡ n))
    (sym (ap (λ (t : Bool). cond t ((48 + n) ∷ []) ((48 + n / 10 % 10) ∷ (48 + n % 10) ∷ [])) e))
    (record { some = omega arith; few = omega arith; whole = (a.0, (b.0, tt)); small = omega (arith, v) }, v)

pub exponent_is : (n : ℕ) → n ≤ 64 → IsExponent (exponent_text n) × (digits_value 10 (exponent_text n) ≡ n)
exponent_is n h = exponent_by (nat_lt n 10) n refl h
