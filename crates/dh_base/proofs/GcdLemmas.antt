-- The greatest common divisor: that it is one by divisibility, its steps by a remainder, and what follows for coprime numbers.
use Rattle.std.proofs.Common.{◌≡◌, ◌≢◌, ◌∙◌, ℕ, zero, suc, ◌+◌, ◌*◌, ◌/◌, ◌%◌, ◌<◌, ◌≤◌, ◌^◌, Bool, true, false, ◌&&◌, refl, sym, ap, subst, arith}
use Rattle.std.specs.Prelude.{if◌then◌else◌}
use Rattle.std.specs.Int.{IsGcd, ◌∣◌}
use Rattle.std.proofs.lemmas.Nat.Gcd.{dvd_refl, dvd-zero, dvd_trans, dvd_antisymm, le_of_dvd, dvd_of_mod-eq-zero, mod-eq-zero_of_dvd, IsGcd-from_zero}
use Rattle.std.proofs.lemmas.Nat.Gcd.{IsGcd-swap, IsGcd-from_mod, same_from_IsGcd, le_from_IsGcd}
use Rattle.std.proofs.Math.Nat.{eq-zero_of_zero-dvd, mul-add-mod_self_left, mul-le-mul_left, dvd-mul_left, one-dvd, mod-eq_of_lt, mul-div_cancel', mul_comm}
use Rattle.std.proofs.Math.Nat.{pow-zero, pow-suc}
use Rattle.std.proofs.lemmas.Bool.{eqb-true, eq-eqb, and_parts}
use Rattle.dh_base.specs.Fractions.{gcd, greatest_divisor, divides}

-- ---- Euclid's steps

scaled_mod : (k a b : ℕ) → 0 < k → 0 < b → (k * a) % (k * b) ≡ k * (a % b)
scaled_mod k a b some positive =
    let below : a % b < b = omega arith in
    let parts : b * (a / b) + a % b ≡ a = omega arith in
    let less : k * (a % b + 1) ≤ k * b = mul-le-mul_left k (omega (arith, below)) in
    let same : k * a ≡ (k * b) * (a / b) + k * (a % b) = ap (λ n. k * n) (sym parts) ∙ omega arith in
    let small : k * (a % b) < k * b = omega (arith, less) in
    ap (λ n. n % (k * b)) same ∙ mul-add-mod_self_left (k * b) (a / b) (k * (a % b)) ∙ mod-eq_of_lt small

euclid : ℕ → ℕ → ℕ → ℕ
euclid fuel a zero = a
euclid zero a (suc b) = a
euclid (suc fuel) a (suc b) = euclid fuel (suc b) (a % suc b)

-- Euclid's algorithm keeps to every multiple of its two numbers
euclid-IsGcd : (k : ℕ) → 0 < k → (fuel a b : ℕ) → b ≤ fuel → IsGcd (k * a) (k * b) (k * euclid fuel a b)
unfolding euclid
euclid-IsGcd k some fuel a zero enough = IsGcd-from_zero (k * a) (k * 0) (omega arith)
euclid-IsGcd k some zero a (suc b) enough = absurd (omega arith)
euclid-IsGcd k some (suc fuel) a (suc b) enough =
    let below : a % suc b < suc b = omega arith in
    let rest = euclid-IsGcd k some fuel (suc b) (a % suc b) (omega (arith, below)) in
    let here : IsGcd (k * suc b) ((k * a) % (k * suc b)) (k * euclid fuel (suc b) (a % suc b)) = rw (scaled_mod k a (suc b) some (omega arith)) rest in
    IsGcd-from_mod (k * a) (k * suc b) _ here

-- ---- the greatest divisor is one

both_divide : (a b d : ℕ) → (divides d a && divides d b) ≡ true → (d ∣ a) × (d ∣ b)
both_divide a b d h =
    let parts = and_parts (divides d a) (divides d b) h in
    (dvd_of_mod-eq-zero d (eqb-true _ _ parts.0), dvd_of_mod-eq-zero d (eqb-true _ _ parts.1))

divide_both : (a b d : ℕ) → d ∣ a → d ∣ b → (divides d a && divides d b) ≡ true
divide_both a b d h k = rw (eq-eqb (a % d) 0 (mod-eq-zero_of_dvd d h), eq-eqb (b % d) 0 (mod-eq-zero_of_dvd d k)) refl

greatest_step : (a b m g : ℕ) → IsGcd a b g → 0 < g → g ≤ suc m → (rest : g ≤ m → greatest_divisor a b m ≡ g) → (t : Bool)
    → (divides (suc m) a && divides (suc m) b) ≡ t → (if t then suc m else greatest_divisor a b m) ≡ g
greatest_step a b m g is some most rest true e =
    let both = both_divide a b (suc m) e in
    let least : suc m ≤ g = le_from_IsGcd a b g (suc m) is some both.0 both.1 in
    omega (arith, least)
greatest_step a b m g is some most rest false e =
    let other : suc m ≢ g = λ same. let clash : true ≡ false =
    sym (divide_both a b (suc m) (subst (λ d. d ∣ a) (sym same) is.0) (subst (λ d. d ∣ b) (sym same) is.1)) ∙ e in cc in
    rest (omega (arith, other))

greatest-is : (a b most g : ℕ) → IsGcd a b g → 0 < g → g ≤ most → greatest_divisor a b most ≡ g
unfolding greatest_divisor
greatest-is a b zero g is some most = absurd (omega arith)
greatest-is a b (suc m) g is some most =
    greatest_step a b m g is some most (λ h. greatest-is a b m g is some h) (divides (suc m) a && divides (suc m) b) refl

found : (a b g : ℕ) → IsGcd a b g → 0 < g → g ≤ a + b → IsGcd a b (gcd a b)
unfolding gcd
found a b g is some most = subst (IsGcd a b) (sym (greatest-is a b (a + b) g is some most)) is

by_euclid : (a b : ℕ) → IsGcd a b (euclid b a b)
by_euclid a b = simp (one_times) at (euclid-IsGcd 1 (omega arith) b a b (omega arith))
  where
    one_times : (n : ℕ) → 1 * n ≡ n
    one_times n = omega arith

pub gcd_zero : (a : ℕ) → gcd a 0 ≡ a
unfolding gcd greatest_divisor
gcd_zero zero = refl
gcd_zero (suc n) = greatest-is (suc n) 0 (suc n + 0) (suc n) (IsGcd-from_zero (suc n) 0 refl) (omega arith) (omega arith)

pub gcd-IsGcd : (a b : ℕ) → IsGcd a b (gcd a b)
gcd-IsGcd a zero = subst (IsGcd a 0) (sym (gcd_zero a)) (IsGcd-from_zero a 0 refl)
gcd-IsGcd a (suc b) =
    let is = by_euclid a (suc b) in
    let most : euclid (suc b) a (suc b) ≤ suc b = le_of_dvd (omega arith) is.1 in
    found a (suc b) (euclid (suc b) a (suc b)) is (some_divisor (euclid (suc b) a (suc b)) is.1) (omega (arith, most))
  where
    some_divisor : (g : ℕ) → g ∣ suc b → 0 < g
    some_divisor zero h = let none : suc b ≡ 0 = eq-zero_of_zero-dvd h in omega (arith, none)
    some_divisor (suc g) h = omega arith

pub gcd_is : (a b g : ℕ) → IsGcd a b g → gcd a b ≡ g
gcd_is a b g is = same_from_IsGcd a b (gcd a b) g (gcd-IsGcd a b) is

pub gcd_comm : (a b : ℕ) → gcd a b ≡ gcd b a
gcd_comm a b = gcd_is a b (gcd b a) (IsGcd-swap b a _ (gcd-IsGcd b a))

pub gcd_step : (a b : ℕ) → gcd b (a % b) ≡ gcd a b
gcd_step a b = sym (gcd_is a b _ (IsGcd-from_mod a b _ (gcd-IsGcd b (a % b))))

pub gcd-positive : (a b : ℕ) → 0 < b → 0 < gcd a b
gcd-positive a b positive = some (gcd a b) (gcd-IsGcd a b).1
  where
    some : (g : ℕ) → g ∣ b → 0 < g
    some zero h = let none : b ≡ 0 = eq-zero_of_zero-dvd h in omega (arith, none)
    some (suc g) h = omega arith

pub gcd-le : (a b : ℕ) → 0 < b → gcd a b ≤ b
gcd-le a b positive = le_of_dvd positive (gcd-IsGcd a b).1

pub gcd-scaled : (k a b : ℕ) → 0 < k → gcd (k * a) (k * b) ≡ k * gcd a b
gcd-scaled k a b some =
    let same : gcd a b ≡ euclid b a b = gcd_is a b _ (by_euclid a b) in
    gcd_is (k * a) (k * b) _ (euclid-IsGcd k some b a b (omega arith)) ∙ ap (λ n. k * n) (sym same)

-- ---- coprime numbers

-- a number that divides two coprime numbers is 1
only_one : (a b d : ℕ) → gcd a b ≡ 1 → d ∣ a → d ∣ b → d ≡ 1
only_one a b d coprime left right =
    let one : d ∣ 1 = subst (λ g. d ∣ g) coprime ((gcd-IsGcd a b).2 d left right) in
    dvd_antisymm one (one-dvd d)

pub coprime-divisors : (a b d e : ℕ) → gcd a b ≡ 1 → d ∣ a → e ∣ b → gcd d e ≡ 1
coprime-divisors a b d e coprime left right =
    let is = gcd-IsGcd d e in
    only_one a b (gcd d e) coprime (dvd_trans _ is.0 left) (dvd_trans _ is.1 right)

-- what divides a product and is coprime to one factor divides the other
pub divides_other : (a b c : ℕ) → gcd a b ≡ 1 → a ∣ b * c → a ∣ c
divides_other a b zero coprime h = dvd-zero a
divides_other a b (suc c) coprime h =
    let scaled : gcd (suc c * a) (suc c * b) ≡ suc c = gcd-scaled (suc c) a b (omega arith) ∙ ap (λ g. suc c * g) coprime ∙ omega arith in
    let right : a ∣ suc c * b = subst (λ n. a ∣ n) (mul_comm b (suc c)) h in
    subst (λ n. a ∣ n) scaled ((gcd-IsGcd (suc c * a) (suc c * b)).2 a (dvd-mul_left a (suc c)) right)

pub coprime-mul : (a b c : ℕ) → gcd a c ≡ 1 → gcd b c ≡ 1 → gcd (a * b) c ≡ 1
coprime-mul a b c left right =
    let d = gcd (a * b) c in
    let is = gcd-IsGcd (a * b) c in
    let apart : gcd d a ≡ 1 = gcd_comm d a ∙ coprime-divisors a c a d left (dvd_refl a) is.1 in
    only_one b c d right (divides_other d a b apart is.0) is.1

one_coprime : (n : ℕ) → gcd 1 n ≡ 1
one_coprime n = dvd_antisymm (gcd-IsGcd 1 n).0 (one-dvd (gcd 1 n))

pub coprime-pow_left : (a c n : ℕ) → gcd a c ≡ 1 → gcd (a ^ n) c ≡ 1
coprime-pow_left a c zero coprime = rw (pow-zero a) (one_coprime c)
coprime-pow_left a c (suc n) coprime = rw (pow-suc a n) (coprime-mul (a ^ n) a c (coprime-pow_left a c n coprime) coprime)

pub coprime-pow : (a b n : ℕ) → gcd a b ≡ 1 → gcd (a ^ n) (b ^ n) ≡ 1
coprime-pow a b n coprime =
    coprime-pow_left a (b ^ n) n (gcd_comm a (b ^ n) ∙ coprime-pow_left b a n (gcd_comm b a ∙ coprime))

-- the quotients by the greatest common divisor are coprime
pub coprime-quotients : (a b : ℕ) → 0 < b → gcd (a / gcd a b) (b / gcd a b) ≡ 1
coprime-quotients a b positive =
    let g = gcd a b in
    let some : 0 < g = gcd-positive a b positive in
    let is = gcd-IsGcd a b in
    let left : g * (a / g) ≡ a = mul-div_cancel' g is.0 in
    let right : g * (b / g) ≡ b = mul-div_cancel' g is.1 in
    let scaled : gcd (g * (a / g)) (g * (b / g)) ≡ g * gcd (a / g) (b / g) = gcd-scaled g (a / g) (b / g) some in
    let same : g ≡ g * gcd (a / g) (b / g) = sym (ap (λ n. gcd n (g * (b / g))) left ∙ ap (λ n. gcd a n) right) ∙ scaled in
    one_factor g (gcd (a / g) (b / g)) some same
  where
    one_factor : (g k : ℕ) → 0 < g → g ≡ g * k → k ≡ 1
    one_factor g zero some same = omega (arith, same)
    one_factor g (suc zero) some same = refl
    one_factor g (suc (suc k)) some same = omega (arith, same)
