-- Rounding half away from zero, by a quotient and what it leaves.
use Rattle.std.proofs.Common.{◌≡◌, ◌∙◌, ℕ, zero, suc, ◌+◌, ◌*◌, ◌/◌, ◌%◌, ◌-◌, ◌<◌, ◌≤◌, ◌^◌, sym, ap, arith, [], ◌∷◌, ◌++◌, append_assoc, decimal, nat_lt}
use Rattle.std.specs.Prelude.{unsigned_abs, ℤ, pos, int_lt, ◌&&◌, if◌then◌else◌}
use Rattle.std.proofs.lemmas.Bool.{lt-ltb}
use Rattle.std.proofs.lemmas.Nat.{div-mul-add, mod-mul-add}
use Rattle.dh_base.specs.Fractions.{Fraction}
use Rattle.dh_base.specs.Decimals.{rounded, printed, text_of, sign_of, decimals, with_point}
use Rattle.dh_base.proofs.DecimalLemmas.{power_positive}

-- a size in tenths, hundredths and so on, as a quotient and what is left, and the quotient's whole part and decimals
pub record IsDivided (size den p digits left : ℕ) : Type 0 where
  pub exact : digits * den + left ≡ size % den * 10 ^ p
  pub below : left < den
  pub small : digits < 10 ^ p

all_digits : (size den p digits left : ℕ) → IsDivided size den p digits left → size * 10 ^ p ≡ (size / den * 10 ^ p + digits) * den + left
all_digits size den p digits left h =
    let parts : size / den * den + size % den ≡ size = omega (arith, h.below) in
    let scaled : (size / den * den + size % den) * 10 ^ p ≡ size * 10 ^ p = ap (λ n. n * 10 ^ p) parts in
    omega (arith, scaled, h.exact)

low : (size den p q left : ℕ) → size * 10 ^ p ≡ q * den + left → left < den → left < den - left → rounded size den p ≡ q
low size den p q left e below less =
    let same : 2 * size * 10 ^ p + den ≡ q * (2 * den) + (2 * left + den) = omega (arith, e) in
    ap (λ n. n / (2 * den)) same ∙ div-mul-add q (2 * den) (2 * left + den) (omega (arith, less))

high : (size den p q left : ℕ) → size * 10 ^ p ≡ q * den + left → left < den → den - left ≤ left → rounded size den p ≡ q + 1
high size den p q left e below more =
    let whole : den ≤ 2 * left = omega (arith, more, below) in
    let same : 2 * size * 10 ^ p + den ≡ (q + 1) * (2 * den) + (2 * left - den) = omega (arith, e, whole) in
    ap (λ n. n / (2 * den)) same ∙ div-mul-add (q + 1) (2 * den) (2 * left - den) (omega (arith, whole, below))

-- what is left is less than a half
pub rounded_down : (size den p digits left : ℕ) → IsDivided size den p digits left → left < den - left
    → (size / den ≡ rounded size den p / 10 ^ p) × (digits ≡ rounded size den p % 10 ^ p)
rounded_down size den p digits left h less =
    let e : rounded size den p ≡ size / den * 10 ^ p + digits =
    low size den p (size / den * 10 ^ p + digits) left (all_digits size den p digits left h) h.below less in (
      sym (ap (λ n. n / 10 ^ p) e ∙ div-mul-add (size / den) (10 ^ p) digits h.small),
      sym (ap (λ n. n % 10 ^ p) e ∙ mod-mul-add (size / den) (10 ^ p) digits h.small),
    )

-- it is a half or more, and the decimals go up
pub rounded_up : (size den p digits left : ℕ) → IsDivided size den p digits left → den - left ≤ left → digits + 1 < 10 ^ p
    → (size / den ≡ rounded size den p / 10 ^ p) × (digits + 1 ≡ rounded size den p % 10 ^ p)
rounded_up size den p digits left h more small =
    let e : rounded size den p ≡ size / den * 10 ^ p + (digits + 1) =
    high size den p (size / den * 10 ^ p + digits) left (all_digits size den p digits left h) h.below more ∙ omega arith in (
      sym (ap (λ n. n / 10 ^ p) e ∙ div-mul-add (size / den) (10 ^ p) (digits + 1) small),
      sym (ap (λ n. n % 10 ^ p) e ∙ mod-mul-add (size / den) (10 ^ p) (digits + 1) small),
    )

-- and they were all nines
pub rounded_over : (size den p digits left : ℕ) → IsDivided size den p digits left → den - left ≤ left → 10 ^ p ≤ digits + 1
    → (size / den + 1 ≡ rounded size den p / 10 ^ p) × (0 ≡ rounded size den p % 10 ^ p)
rounded_over size den p digits left h more full =
    let nines : digits + 1 ≡ 10 ^ p = omega (arith, full, h.small) in
    let e : rounded size den p ≡ (size / den + 1) * 10 ^ p + 0 =
    high size den p (size / den * 10 ^ p + digits) left (all_digits size den p digits left h) h.below more ∙ carried (size / den) digits (10 ^ p) nines in (
      sym (ap (λ n. n / 10 ^ p) e ∙ div-mul-add (size / den + 1) (10 ^ p) 0 (power_positive p)),
      sym (ap (λ n. n % 10 ^ p) e ∙ mod-mul-add (size / den + 1) (10 ^ p) 0 (power_positive p)),
    )
  where
    carried : (w d k : ℕ) → d + 1 ≡ k → w * k + d + 1 ≡ (w + 1) * k + 0
    carried w d k e = omega (arith, e)

-- a number that needs no rounding
pub rounded_exact : (size den p n : ℕ) → 0 < den → size * 10 ^ p ≡ n * den → rounded size den p ≡ n
rounded_exact size den p n some e = low size den p n 0 (e ∙ omega arith) some (omega (arith, some))

same_test : (n k : ℕ) → 0 < k → nat_lt 0 (n / k + n % k) ≡ nat_lt 0 n
same_test zero k some = let none : 0 / k + 0 % k ≡ 0 = omega (arith, some) in ap (λ m. nat_lt 0 m) none
same_test (suc n) k some =
    let parts : k * (suc n / k) + suc n % k ≡ suc n = omega arith in
    let more : 0 < suc n / k + suc n % k = positive (suc n / k) (suc n % k) parts in
    rw (lt-ltb 0 (suc n / k + suc n % k) more) (sym (lt-ltb 0 (suc n) (omega arith)))
  where
    positive : (a b : ℕ) → k * a + b ≡ suc n → 0 < a + b
    positive zero b e = omega (arith, e)
    positive (suc a) b e = omega arith

same_sign : (num : ℤ) (n k : ℕ) → 0 < k → sign_of num (n / k + n % k) ≡ sign_of num n
same_sign num n k some = ap (λ t. if int_lt num (pos 0) && t then 45 ∷ [] else []) (same_test n k some)

-- the text from its parts
pub printed_by_parts : (f : Fraction) (p whole rest : ℕ) → whole ≡ rounded (unsigned_abs f.num) f.den p / 10 ^ p
    → rest ≡ rounded (unsigned_abs f.num) f.den p % 10 ^ p
    → sign_of f.num (whole + rest) ++ decimal whole ++ with_point (decimals p rest) ≡ printed f p
unfolding printed text_of
printed_by_parts f p whole rest e g =
    let n = rounded (unsigned_abs f.num) f.den p in
    ap (λ k. sign_of f.num (k + rest) ++ decimal k ++ with_point (decimals p rest)) e
    ∙ ap (λ k. sign_of f.num (n / 10 ^ p + k) ++ decimal (n / 10 ^ p) ++ with_point (decimals p k)) g
    ∙ ap (λ s. s ++ decimal (n / 10 ^ p) ++ with_point (decimals p (n % 10 ^ p))) (same_sign f.num n (10 ^ p) (power_positive p))
    ∙ append_assoc (sign_of f.num n) (decimal (n / 10 ^ p)) (with_point (decimals p (n % 10 ^ p)))
