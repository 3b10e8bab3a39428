-- What is printed with six decimals is read back.
use Rattle.std.proofs.Common.{◌≡◌, ◌∙◌, ℕ, zero, suc, ◌+◌, ◌*◌, ◌/◌, ◌%◌, ◌-◌, ◌<◌, ◌≤◌, ◌^◌, refl, sym, ap, subst, arith, List, [], ◌∷◌, ◌++◌, length, drop}
use Rattle.std.proofs.Common.{length-append, decimal, Bool, true, false, nat_lt, nat_eq, ◌&&◌}
use Rattle.std.specs.Prelude.{nat_le}
use Rattle.std.proofs.lemmas.Bool.{lt-ltb, le-leb}
use Rattle.std.specs.Prelude.{unsigned_abs, ℤ, pos, negsuc, neg_ℤ, ◌*ℤ◌, int_lt, Some, None, option_map, position, if◌then◌else◌}
use Rattle.std.specs.List.{list_all, position_or_len}
use Rattle.std.specs.Char.{is_ascii_digit, digit_value}
use Rattle.std.specs.Str.Parse.{digits_value, digits_value_after, AllDigits}
use Rattle.std.proofs.lemmas.Str.Parse.{digit_from_value}
use Rattle.std.proofs.lemmas.Fmt.{decimal_is_IsNumeral_wide, length-decimal-le_wide}
use Rattle.std.proofs.lemmas.List.{append-nil}
use Rattle.std.proofs.Math.Seq.{take-append_seam, drop-append-add}
use Rattle.std.proofs.lemmas.Bool.Decides.{nat_tests}
use Rattle.std.proofs.Math.Nat.{pow-suc, mul-div_cancel', sub-zero}
use Rattle.dh_base.specs.Fractions.{fraction_of, gcd}
use Rattle.dh_base.specs.Decimals.{rounded, printed, text_of, sign_of, decimals, with_point, decimal_of, size_of, digits_of, decimals_of, split_at, both}
use Rattle.dh_base.specs.Decimals.{is_point, has_minus}
use Rattle.dh_base.proofs.GcdLemmas.{gcd-IsGcd}
use Rattle.dh_base.proofs.FractionLemmas.{abs_times, fraction_of-HasValue, fraction_of-IsReduced}
use Rattle.dh_base.proofs.DecimalLemmas.{power_positive, rest_below, decimals_none, digit_below, pointed, decimals_more}
use Rattle.dh_base.proofs.RoundingLemmas.{rounded_exact}

-- ---- digits

is_digit_from : (c : ℕ) → digit_value c < 10 → is_ascii_digit c ≡ true
is_digit_from c h = let r = digit_from_value c h in grind (arith, nat_tests)

list_all_from : (ds : List ℕ) → AllDigits 10 ds → list_all is_ascii_digit ds ≡ true
list_all_from [] h = refl
list_all_from (d ∷ ds) h = rw (is_digit_from d h.0, list_all_from ds h.1) refl

-- 1 to `most` digits, and what they write
pub record Writes (most : ℕ) (ds : List ℕ) (n : ℕ) : Type 0 where
  pub some : 0 < length ds
  pub short : length ds ≤ most
  pub digits : AllDigits 10 ds
  pub value : digits_value 10 ds ≡ n

reads_digits : (most : ℕ) (ds : List ℕ) (n : ℕ) → Writes most ds n → digits_of most ds ≡ Some n
unfolding digits_of
reads_digits most ds n w =
    let some : nat_lt 0 (length ds) ≡ true = lt-ltb 0 (length ds) w.some in
    let short : nat_le (length ds) most ≡ true = le-leb (length ds) most w.short in
    rw (some, short, list_all_from ds w.digits) (ap (λ v. Some v) w.value)

whole_digits : (w : ℕ) → w < 10 ^ 12 → Writes 12 (decimal w) w
whole_digits w small =
    let wide : w < 10 ^ 64 = omega (arith, small) in
    let n = decimal_is_IsNumeral_wide w wide in
    record { some = n.0.0; short = length-decimal-le_wide 12 w (omega arith) small wide; digits = n.0.1; value = n.1 }

digit_of : (d : ℕ) → d < 10 → digit_value (48 + d) ≡ d
digit_of d h = grind (arith, nat_tests)

first_digit : (p r : ℕ) → suc r < 10 ^ suc p → suc r / 10 ^ p < 10
first_digit p r below =
    let same : suc p - 1 ≡ p = omega arith in
    subst (λ k. suc r / 10 ^ k < 10) same (digit_below (suc p) (suc r) (omega arith) below)

-- digits after the point, read on from a number, and brought to their weight
read_on : (p v r : ℕ) → r < 10 ^ p → digits_value_after 10 v (decimals p r) * 10 ^ (p - length (decimals p r)) ≡ v * 10 ^ p + r
unfolding decimals
read_on zero v r below = let none : r ≡ 0 = omega (arith, below) in rw none (omega arith)
read_on (suc p) v zero below = let e : v * 10 ^ (suc p - 0) ≡ v * 10 ^ suc p + 0 = rw (sub-zero (suc p)) (omega arith) in e
read_on (suc p) v (suc r) below =
    let d = suc r / 10 ^ p in
    let rest = decimals p (suc r % 10 ^ p) in
    let small : d < 10 = first_digit p r below in
    let places : suc p - suc (length rest) ≡ p - length rest = omega arith in
    let on = read_on p (v * 10 + d) (suc r % 10 ^ p) (rest_below p (suc r)) in
    let some : 0 < 10 ^ p = power_positive p in
    let parts : 10 ^ p * d + suc r % 10 ^ p ≡ suc r = omega (arith, some) in
    let scale : v * 10 ^ suc p ≡ v * (10 ^ p * 10) = ap (λ k. v * k) (pow-suc 10 p) in
    ap (λ t. digits_value_after 10 v t * 10 ^ (suc p - length t)) (decimals_more p r)
    ∙ ap (λ k. digits_value_after 10 (v * 10 + k) rest * 10 ^ (suc p - suc (length rest))) (digit_of d small)
    ∙ ap (λ k. digits_value_after 10 (v * 10 + d) rest * 10 ^ k) places ∙ on ∙ omega (arith, parts, scale)

few_digits : (p r : ℕ) → r < 10 ^ p → (length (decimals p r) ≤ p) × AllDigits 10 (decimals p r)
unfolding decimals
few_digits zero r below = (omega arith, tt)
few_digits (suc p) zero below = let none : 0 ≤ suc p = omega arith in (none, tt)
few_digits (suc p) (suc r) below =
    let more = few_digits p (suc r % 10 ^ p) (rest_below p (suc r)) in
    let small : suc r / 10 ^ p < 10 = first_digit p r below in
    let first : digit_value (48 + suc r / 10 ^ p) < 10 = omega (arith, digit_of (suc r / 10 ^ p) small, small) in
    subst (λ t. (length t ≤ suc p) × AllDigits 10 t) (sym (decimals_more p r)) (omega (arith, more.0), (first, more.1))

some_digits : (p r : ℕ) → suc r < 10 ^ p → 0 < length (decimals p (suc r))
unfolding decimals
some_digits zero r below = omega (arith, below)
some_digits (suc p) r below = rw (decimals_more p r) (omega arith)

reads_decimals : (r : ℕ) → suc r < 10 ^ 6 → decimals_of (decimals 6 (suc r)) ≡ Some (suc r)
reads_decimals r below =
    let es = decimals 6 (suc r) in
    let few = few_digits 6 (suc r) below in
    let w : Writes 6 es (digits_value 10 es) = record { some = some_digits 6 r below; short = few.0; digits = few.1; value = refl } in
    ap (option_map (λ n. n * 10 ^ (6 - length es))) (reads_digits 6 es (digits_value 10 es) w) ∙ ap (λ n. Some n) (read_on 6 0 (suc r) below ∙ omega arith)

-- ---- the point

no_point : (c : ℕ) → digit_value c < 10 → is_point c ≡ false
no_point c h = let r = digit_from_value c h in grind (arith, nat_tests)

point_after : (ds rest : List ℕ) → AllDigits 10 ds → position_or_len is_point (ds ++ rest) ≡ length ds + position_or_len is_point rest
point_after [] rest h = omega arith
point_after (d ∷ ds) rest h = rw (no_point d h.0, point_after ds rest h.1) (omega arith)

no_place : (ds : List ℕ) → AllDigits 10 ds → position is_point ds ≡ None
no_place ds h =
    let e : position_or_len is_point ds ≡ length ds = ap (position_or_len is_point) (sym (append-nil ds)) ∙ point_after ds [] h ∙ omega arith in
    rw (e, not_below (length ds)) refl
  where
    not_below : (n : ℕ) → nat_lt n n ≡ false
    not_below n = grind (arith, nat_tests)

at_place : (ds es : List ℕ) → AllDigits 10 ds → position is_point (ds ++ 46 ∷ es) ≡ Some (length ds)
at_place ds es h =
    let e : position_or_len is_point (ds ++ 46 ∷ es) ≡ length ds = point_after ds (46 ∷ es) h ∙ omega arith in
    let within : nat_lt (length ds) (length (ds ++ 46 ∷ es)) ≡ true = lt-ltb (length ds) (length (ds ++ 46 ∷ es)) (omega (arith, length-append ds (46 ∷ es))) in
    rw (e, within) refl

size_of-whole : (ds : List ℕ) (n : ℕ) → Writes 12 ds n → size_of ds ≡ Some (n * 1000000)
unfolding size_of
size_of-whole ds n w = ap (λ o. split_at o ds) (no_place ds w.digits) ∙ ap (option_map (λ whole. whole * 1000000)) (reads_digits 12 ds n w)

size_of-parts : (ds es : List ℕ) (n m : ℕ) → Writes 12 ds n → decimals_of es ≡ Some m → size_of (ds ++ 46 ∷ es) ≡ Some (n * 1000000 + m)
unfolding size_of
size_of-parts ds es n m w rest =
    ap (λ o. split_at o (ds ++ 46 ∷ es)) (at_place ds es w.digits)
    ∙ ap (λ t. both (digits_of 12 t) (decimals_of (drop (length ds + 1) (ds ++ 46 ∷ es)))) (take-append_seam ds (46 ∷ es))
    ∙ ap (λ t. both (digits_of 12 ds) (decimals_of t)) (drop-append-add ds (46 ∷ es) 1)
    ∙ ap (λ o. both o (decimals_of es)) (reads_digits 12 ds n w)
    ∙ ap (λ o. both (Some n) o) rest

-- ---- the whole text

size_of-split : (w r : ℕ) → w < 10 ^ 12 → r < 10 ^ 6 → size_of (decimal w ++ with_point (decimals 6 r)) ≡ Some (w * 1000000 + r)
size_of-split w zero small below =
    ap (λ t. size_of (decimal w ++ with_point t)) (decimals_none 6) ∙ ap size_of (append-nil (decimal w)) ∙ size_of-whole (decimal w) w (whole_digits w small)
    ∙ ap (λ n. Some n) (omega arith)
size_of-split w (suc r) small below =
    ap (λ t. size_of (decimal w ++ t)) (pointed 6 (suc r) below (omega arith))
    ∙ size_of-parts (decimal w) (decimals 6 (suc r)) w (suc r) (whole_digits w small) (reads_decimals r below)

whole_below : (n : ℕ) → n < 10 ^ 18 → n / 1000000 < 10 ^ 12
whole_below n small = omega (arith, small)

size_of-text : (n : ℕ) → n < 10 ^ 18 → size_of (text_of n 6) ≡ Some n
unfolding text_of
size_of-text n small =
    let together : n / 1000000 * 1000000 + n % 1000000 ≡ n = omega arith in
    size_of-split (n / 1000000) (n % 1000000) (whole_below n small) (rest_below 6 n) ∙ ap (λ k. Some k) together

starts_with_digit : (ds rest : List ℕ) → 0 < length ds → AllDigits 10 ds → has_minus (ds ++ rest) ≡ false
starts_with_digit [] rest some h = absurd (omega arith)
starts_with_digit (d ∷ ds) rest some h =
    let r = digit_from_value d h.0 in
    let other : nat_eq d 45 ≡ false = grind (arith, nat_tests) in
    rw other (and_false (nat_lt 0 (length ((d ∷ ds) ++ rest))))
  where
    and_false : (b : Bool) → (b && false) ≡ false
    and_false true = refl
    and_false false = refl

no_minus : (n : ℕ) → n < 10 ^ 18 → has_minus (text_of n 6) ≡ false
unfolding text_of
no_minus n small =
    let w = whole_digits (n / 1000000) (whole_below n small) in
    starts_with_digit (decimal (n / 1000000)) (with_point (decimals 6 (n % 1000000))) w.some w.digits

-- ---- the sign and the size of a fraction of millionths

same_sign : (z : ℤ) (d : ℕ) → 0 < d → int_lt (fraction_of z d).num (pos 0) ≡ int_lt z (pos 0)
unfolding fraction_of
same_sign (pos n) d some = not_below (n / gcd n d) n
  where
    not_below : (a b : ℕ) → nat_lt a 0 ≡ nat_lt b 0
    not_below a b = grind (arith, nat_tests)
same_sign (negsuc n) d some = below (gcd (suc n) d) (suc n / gcd (suc n) d) (mul-div_cancel' (gcd (suc n) d) (gcd-IsGcd (suc n) d).0)
  where
    below : (g q : ℕ) → g * q ≡ suc n → int_lt (neg_ℤ (pos q)) (pos 0) ≡ true
    below g zero e = absurd (omega (arith, e))
    below g (suc q) e = refl

exact : (micros : ℤ) → rounded (unsigned_abs (fraction_of micros 1000000).num) (fraction_of micros 1000000).den 6 ≡ unsigned_abs micros
exact micros =
    let f = fraction_of micros 1000000 in
    let same : f.num *ℤ pos 1000000 ≡ micros *ℤ pos f.den = fraction_of-HasValue micros 1000000 (omega arith) in
    rounded_exact (unsigned_abs f.num) f.den 6 (unsigned_abs micros) (fraction_of-IsReduced micros 1000000 (omega arith)).positive
    (sym (abs_times f.num 1000000) ∙ ap unsigned_abs same ∙ abs_times micros f.den)

-- a whole number of millionths is printed with its own digits
pub printed-micros : (micros : ℤ) → printed (fraction_of micros 1000000) 6 ≡ sign_of micros (unsigned_abs micros) ++ text_of (unsigned_abs micros) 6
unfolding printed
printed-micros micros =
    ap (λ n. sign_of (fraction_of micros 1000000).num n ++ text_of n 6) (exact micros)
    ∙ ap (λ b. (if b && nat_lt 0 (unsigned_abs micros) then 45 ∷ [] else []) ++ text_of (unsigned_abs micros) 6) (same_sign micros 1000000 (omega arith))

reads_signed : (micros : ℤ) → unsigned_abs micros < 10 ^ 18 → decimal_of (sign_of micros (unsigned_abs micros) ++ text_of (unsigned_abs micros) 6) ≡ Some micros
unfolding decimal_of
reads_signed (pos n) small =
    let none : nat_lt n 0 ≡ false = grind (arith, nat_tests) in
    rw (none, no_minus n small) (ap (option_map pos) (size_of-text n small))
reads_signed (negsuc n) small =
    rw (lt-ltb 0 (suc n) (omega arith), lt-ltb 0 (suc (length (text_of (suc n) 6))) (omega arith))
    (ap (option_map (λ k. neg_ℤ (pos k))) (size_of-text (suc n) small))

-- what is printed of a whole number of millionths is read as that number
pub read_back : (micros : ℤ) → unsigned_abs micros < 10 ^ 18 → decimal_of (printed (fraction_of micros 1000000) 6) ≡ Some micros
read_back micros small = ap decimal_of (printed-micros micros) ∙ reads_signed micros small
