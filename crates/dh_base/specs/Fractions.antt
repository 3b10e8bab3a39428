-- Computed numbers: reduced fractions of whole numbers. The definitions are those of arithmetic, over whole numbers without bound. How
-- large a number may grow is said apart, by sizes.
use Rattle.std.specs.Prelude.{◌≡◌, ℕ, zero, suc, ◌+◌, ◌*◌, ◌/◌, ◌%◌, ◌^◌, ◌<◌, Bool, ◌&&◌, if◌then◌else◌, nat_eq, nat_lt, ℤ, pos, negsuc, ◌+ℤ◌, ◌*ℤ◌, neg_ℤ}
use Rattle.std.specs.Prelude.{unsigned_abs, int_div, Result, Ok, Err, Option, Some, None}
use Rattle.std.specs.Int.{int_pow}
use Rattle.std.specs.Ordering.{int_cmp}
use Rattle.std.specs.declared.cmp.Ordering.{Ordering}
use Rattle.dh_base.specs.declared.plain.NumFault.{NumFault}
use Rattle.dh_base.specs.declared.plain.NumFault.TheVariants.{Wide, ByZero}

abbrev pub divides : ℕ → ℕ → Bool
divides d n = nat_eq (n % d) 0

-- the greatest number up to `most` that divides both a and b, and 0 where there is none
unfoldable pub greatest_divisor : ℕ → ℕ → ℕ → ℕ
greatest_divisor a b zero = 0
greatest_divisor a b (suc most) = if divides (suc most) a && divides (suc most) b then suc most else greatest_divisor a b most

-- the greatest common divisor, and 0 of 0 and 0
unfoldable pub gcd : ℕ → ℕ → ℕ
gcd a b = greatest_divisor a b (a + b)

pub record Fraction : Type 0 where
  pub num : ℤ
  pub den : ℕ

abbrev pub ratio : ℤ → ℕ → Fraction
ratio n d = record { num = n; den = d }

-- the fraction num / den in lowest terms
unfoldable pub fraction_of : ℤ → ℕ → Fraction
fraction_of num den = let g = gcd (unsigned_abs num) den in ratio (int_div num (pos g)) (den / g)

-- a whole number of millionths
abbrev pub of_micros : ℤ → Fraction
of_micros micros = fraction_of micros 1000000

-- the fraction stands in lowest terms
pub record IsReduced (f : Fraction) : Type 0 where
  pub positive : 0 < f.den
  pub coprime : gcd (unsigned_abs f.num) f.den ≡ 1

-- the fraction has the value num / den
abbrev pub HasValue : Fraction → ℤ → ℕ → Type 0
HasValue f num den = f.num *ℤ pos den ≡ num *ℤ pos f.den

-- ---- sums, products and powers of fractions

unfoldable pub sum_of : Fraction → Fraction → Fraction
sum_of x y = fraction_of (x.num *ℤ pos y.den +ℤ y.num *ℤ pos x.den) (x.den * y.den)

abbrev pub negated : Fraction → Fraction
negated x = ratio (neg_ℤ x.num) x.den

unfoldable pub product_of : Fraction → Fraction → Fraction
product_of x y = fraction_of (x.num *ℤ y.num) (x.den * y.den)

-- 1 / x, for x other than 0
abbrev pub flipped : ℤ → ℕ → Fraction
flipped (pos n) d = ratio (pos d) n
flipped (negsuc n) d = ratio (neg_ℤ (pos d)) (suc n)

abbrev pub reciprocal : Fraction → Fraction
reciprocal x = flipped x.num x.den

unfoldable pub power_of : Fraction → ℕ → Fraction
power_of x n = fraction_of (int_pow x.num n) (x.den ^ n)

-- x cut to a whole number, towards zero
abbrev pub whole_part : Fraction → Fraction
whole_part x = ratio (int_div x.num (pos x.den)) 1

-- how x and y are ordered by value
unfoldable pub order_of : Fraction → Fraction → Ordering
order_of x y = int_cmp (x.num *ℤ pos y.den) (y.num *ℤ pos x.den)

-- ---- sizes

-- a number fits where its size is below 2 ^ 127
abbrev pub fits_size : ℕ → Bool
fits_size n = nat_lt n (2 ^ 127)

abbrev pub fits : ℤ → Bool
fits z = fits_size (unsigned_abs z)

abbrev pub fits_fraction : Fraction → Bool
fits_fraction f = fits f.num && fits_size f.den

-- n over the least common multiple of its own denominator and another one, g being the greatest common divisor of the two
abbrev pub over_common : ℤ → ℕ → ℕ → ℤ
over_common n other g = n *ℤ pos (other / g)

-- both numerators over the least common denominator fit
unfoldable pub can_compare : Fraction → Fraction → Bool
can_compare x y = let g = gcd x.den y.den in fits (over_common x.num y.den g) && fits (over_common y.num x.den g)

-- and so do their sum and that denominator
unfoldable pub can_add : Fraction → Fraction → Bool
can_add x y =
    let g = gcd x.den y.den in
    can_compare x y && fits (over_common x.num y.den g +ℤ over_common y.num x.den g) && fits_size (x.den / g * y.den)

-- the fraction stands in lowest terms, and both its numbers fit
pub record IsFitting (f : Fraction) : Type 0 where
  pub reduced : IsReduced f
  pub num_fits : unsigned_abs f.num < 2 ^ 127
  pub den_fits : f.den < 2 ^ 127

-- ---- the answers of the calls

abbrev pub some_if : {A : Type 0} → Bool → A → Option A
some_if test answer = if test then Some answer else None

abbrev pub or_wide : {A : Type 0} → Bool → A → Result A NumFault
or_wide test answer = if test then Ok answer else Err Wide

-- the fraction where it fits
abbrev pub fitting : Fraction → Result Fraction NumFault
fitting f = or_wide (fits_fraction f) f

abbrev pub add_of : Fraction → Fraction → Result Fraction NumFault
add_of x y = or_wide (can_add x y) (sum_of x y)

abbrev pub sub_of : Fraction → Fraction → Result Fraction NumFault
sub_of x y = add_of x (negated y)

abbrev pub mul_of : Fraction → Fraction → Result Fraction NumFault
mul_of x y = fitting (product_of x y)

abbrev pub div_of : Fraction → Fraction → Result Fraction NumFault
div_of x y = if nat_eq (unsigned_abs y.num) 0 then Err ByZero else mul_of x (reciprocal y)

abbrev pub pow_of : Fraction → ℕ → Result Fraction NumFault
pow_of x n = fitting (power_of x n)

abbrev pub cmp_of : Fraction → Fraction → Result Ordering NumFault
cmp_of x y = or_wide (can_compare x y) (order_of x y)

-- the first fault, or what the next step makes of the answer
abbrev pub and_then : {A B : Type 0} → Result A NumFault → (A → Result B NumFault) → Result B NumFault
and_then (Ok x) next = next x
and_then (Err fault) next = Err fault

-- x - y * t, where t is x / y cut to a whole number towards zero
abbrev pub rem_of : Fraction → Fraction → Result Fraction NumFault
rem_of x y = and_then (div_of x y) (λ q. and_then (mul_of y (whole_part q)) (λ p. sub_of x p))
