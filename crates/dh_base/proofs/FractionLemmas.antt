-- Reduced fractions: each has one form for its value, and arithmetic on forms that are not reduced comes to the same.
use Rattle.std.proofs.Common.{◌≡◌, ◌∙◌, Bool, true, false, cond, ◌==◌, ◌&&◌, ℕ, zero, suc, ◌+◌, ◌*◌, ◌/◌, ◌%◌, ◌<◌, ◌≤◌, ◌^◌, refl, sym, ap, subst, arith}
use Rattle.std.specs.Prelude.{ℤ, pos, negsuc, ◌+ℤ◌, ◌*ℤ◌, neg_ℤ, unsigned_abs, int_div, ◌<ℤ◌, Option, Some, None, Ok, Err, IfSome}
use Rattle.std.specs.Int.{◌∣◌, int_pow, w128, cast_signed as to_z, cast_unsigned as of_z}
use Rattle.std.specs.Int.RustNames.{FitsSigned}
use Rattle.std.specs.Option.{option_zip}
use Rattle.std.proofs.lemmas.Int.{to_z-of_z}
use Rattle.std.specs.Ordering.{int_cmp, MatchOrdering}
use Rattle.std.specs.declared.cmp.Ordering.{Ordering}
use Rattle.std.specs.declared.cmp.Ordering.TheVariants.{Less, Equal, Greater}
use Rattle.std.specs.Cmp.{int_cmp_is, int_ranks}
use Rattle.std.proofs.lemmas.Int.{ints}
use borrow.Author.Differences.{up, down, same_in, sum_is_lem, product_is}
use Rattle.std.proofs.lemmas.Nat.Gcd.{dvd_antisymm}
use Rattle.std.proofs.Math.Nat.{mul-div_cancel', div-mul_cancel, mul-le-mul_left, mul-pos, one-dvd, one-le-pow, dvd-mul_left, div-le_self, zero-mul}
use Rattle.std.proofs.Math.Nat.{mul_assoc, mul_comm, eq_of_mul-eq-mul_right}
use Rattle.dh_base.specs.Fractions.{gcd, Fraction, ratio, fraction_of, IsReduced, HasValue, IsFitting, whole_part, flipped, over_common, sum_of, order_of}
use Rattle.dh_base.specs.Fractions.{product_of, power_of, can_compare, can_add, some_if, cmp_of, add_of, fitting, fits, fits_size}
use Rattle.dh_base.specs.declared.plain.NumFault.TheVariants.{Wide}
use Rattle.std.proofs.lemmas.Bool.{ltb-true, lt-ltb, le-ltb}
use Rattle.dh_base.proofs.GcdLemmas.{gcd-IsGcd, gcd_comm, gcd-positive, divides_other, coprime-quotients, coprime-mul, coprime-divisors, coprime-pow}

-- ---- whole numbers times a positive one

abs_neg : (n : ℕ) → unsigned_abs (neg_ℤ (pos n)) ≡ n
abs_neg zero = refl
abs_neg (suc n) = refl

pub abs_times : (z : ℤ) (k : ℕ) → unsigned_abs (z *ℤ pos k) ≡ unsigned_abs z * k
abs_times (pos n) k = refl
abs_times (negsuc n) k = abs_neg (suc n * k)

pub abs_div : (z : ℤ) (g : ℕ) → unsigned_abs (int_div z (pos g)) ≡ unsigned_abs z / g
abs_div (pos n) g = refl
abs_div (negsuc n) g = abs_neg (suc n / g)

neg_times : (n k : ℕ) → neg_ℤ (pos n) *ℤ pos k ≡ neg_ℤ (pos (n * k))
neg_times zero k = rw (zero-mul k) refl
neg_times (suc n) k = refl

pub times_times : (z : ℤ) (j k : ℕ) → (z *ℤ pos j) *ℤ pos k ≡ z *ℤ pos (j * k)
times_times (pos n) j k = ap pos (mul_assoc n j k)
times_times (negsuc n) j k = neg_times (suc n * j) k ∙ ap (λ m. neg_ℤ (pos m)) (mul_assoc (suc n) j k)

pub times_swap : (z : ℤ) (j k : ℕ) → (z *ℤ pos j) *ℤ pos k ≡ (z *ℤ pos k) *ℤ pos j
times_swap z j k = times_times z j k ∙ ap (λ n. z *ℤ pos n) (mul_comm j k) ∙ sym (times_times z k j)

exact_div : (z : ℤ) (g : ℕ) → g ∣ unsigned_abs z → int_div z (pos g) *ℤ pos g ≡ z
exact_div (pos n) g h = ap pos (div-mul_cancel g h)
exact_div (negsuc n) g h = neg_times (suc n / g) g ∙ ap (λ m. neg_ℤ (pos m)) (div-mul_cancel g h)

cancel_times : (x y : ℤ) (k : ℕ) → 0 < k → x *ℤ pos k ≡ y *ℤ pos k → x ≡ y
cancel_times x y k some e =
    same_in x y (eq_of_mul-eq-mul_right k some (up x + down y) (up y + down x) (omega (arith, ints)))

-- ---- reduced fractions

pub fraction_of-IsReduced : (z : ℤ) (d : ℕ) → 0 < d → IsReduced (fraction_of z d)
unfolding fraction_of
fraction_of-IsReduced z d some =
    let g = gcd (unsigned_abs z) d in
    let whole : g * (d / g) ≡ d = mul-div_cancel' g (gcd-IsGcd (unsigned_abs z) d).1 in
    record {
      positive = positive_factor g (d / g) (omega (arith, whole, some));
      coprime = ap (λ n. gcd n (d / g)) (abs_div z g) ∙ coprime-quotients (unsigned_abs z) d some;
    }
  where
    positive_factor : (a b : ℕ) → 0 < a * b → 0 < b
    positive_factor a zero h = omega (arith, h)
    positive_factor a (suc b) h = omega arith

pub fraction_of-HasValue : (z : ℤ) (d : ℕ) → 0 < d → HasValue (fraction_of z d) z d
unfolding fraction_of
fraction_of-HasValue z d some =
    let g = gcd (unsigned_abs z) d in
    let is = gcd-IsGcd (unsigned_abs z) d in
    let whole : g * (d / g) ≡ d = mul-div_cancel' g is.1 in
    ap (λ n. int_div z (pos g) *ℤ pos n) (sym whole) ∙ sym (times_times (int_div z (pos g)) g (d / g)) ∙ ap (λ x. x *ℤ pos (d / g)) (exact_div z g is.0)

den_divides : (f h : Fraction) → IsReduced f → f.num *ℤ pos h.den ≡ h.num *ℤ pos f.den → f.den ∣ h.den
den_divides f h reduced same =
    let sizes : unsigned_abs f.num * h.den ≡ unsigned_abs h.num * f.den = sym (abs_times f.num h.den) ∙ ap unsigned_abs same ∙ abs_times h.num f.den in
    divides_other f.den (unsigned_abs f.num) h.den (gcd_comm f.den (unsigned_abs f.num) ∙ reduced.coprime)
    (subst (λ n. f.den ∣ n) (sym sizes) (dvd-mul_left f.den (unsigned_abs h.num)))

-- two reduced fractions of one value are the same
pub reduced-unique : (f h : Fraction) → IsReduced f → IsReduced h → f.num *ℤ pos h.den ≡ h.num *ℤ pos f.den → f ≡ h
reduced-unique f h left right same =
    let dens : f.den ≡ h.den = dvd_antisymm (den_divides f h left same) (den_divides h f right (sym same)) in
    let nums : f.num ≡ h.num = cancel_times f.num h.num f.den left.positive (ap (λ n. f.num *ℤ pos n) dens ∙ same) in
    λ i. ratio (nums i) (dens i)

-- a reduced fraction of the value z / d is the one that `fraction_of` gives
pub fraction_of-unique : (f : Fraction) (z : ℤ) (d : ℕ) → 0 < d → IsReduced f → HasValue f z d → f ≡ fraction_of z d
fraction_of-unique f z d some reduced value =
    let r = fraction_of z d in
    let own : HasValue r z d = fraction_of-HasValue z d some in
    reduced-unique f r reduced (fraction_of-IsReduced z d some)
    (cancel_times (f.num *ℤ pos r.den) (r.num *ℤ pos f.den) d some (crossed f.num r.num z f.den r.den d value own))
  where
    crossed : (m n z : ℤ) (a b d : ℕ) → m *ℤ pos d ≡ z *ℤ pos a → n *ℤ pos d ≡ z *ℤ pos b → (m *ℤ pos b) *ℤ pos d ≡ (n *ℤ pos a) *ℤ pos d
    crossed m n z a b d p q =
        times_swap m b d ∙ ap (λ x. x *ℤ pos b) p ∙ times_swap z a b ∙ ap (λ x. x *ℤ pos a) (sym q) ∙ times_swap n d a

-- fractions of one value have one form in lowest terms
pub fraction_of-same : (z y : ℤ) (d e : ℕ) → 0 < d → 0 < e → z *ℤ pos e ≡ y *ℤ pos d → fraction_of z d ≡ fraction_of y e
fraction_of-same z y d e some other same =
    let r = fraction_of z d in
    let own : HasValue r z d = fraction_of-HasValue z d some in
    fraction_of-unique r y e other (fraction_of-IsReduced z d some)
    (cancel_times (r.num *ℤ pos e) (y *ℤ pos r.den) d some (crossed r.num z y r.den d e own same))
  where
    crossed : (m z y : ℤ) (b d e : ℕ) → m *ℤ pos d ≡ z *ℤ pos b → z *ℤ pos e ≡ y *ℤ pos d → (m *ℤ pos e) *ℤ pos d ≡ (y *ℤ pos b) *ℤ pos d
    crossed m z y b d e p q =
        times_swap m e d ∙ ap (λ x. x *ℤ pos e) p ∙ times_swap z b e ∙ ap (λ x. x *ℤ pos b) q ∙ times_swap y d b

-- a reduced fraction is its own form in lowest terms
pub fraction_of-reduced : (f : Fraction) → IsReduced f → fraction_of f.num f.den ≡ f
fraction_of-reduced f reduced = sym (fraction_of-unique f f.num f.den reduced.positive reduced refl)

-- reducing makes no number larger
pub fraction_of-num_size : (z : ℤ) (d : ℕ) → unsigned_abs (fraction_of z d).num ≤ unsigned_abs z
unfolding fraction_of
fraction_of-num_size z d = omega (arith, abs_div z (gcd (unsigned_abs z) d), div-le_self (unsigned_abs z) (gcd (unsigned_abs z) d))

pub fraction_of-den_size : (z : ℤ) (d : ℕ) → (fraction_of z d).den ≤ d
unfolding fraction_of
fraction_of-den_size z d = div-le_self d (gcd (unsigned_abs z) d)

-- ---- what fits

pub fraction_of-IsFitting : (z : ℤ) (d : ℕ) → 0 < d → unsigned_abs z < 2 ^ 127 → d < 2 ^ 127 → IsFitting (fraction_of z d)
fraction_of-IsFitting z d some num_fits den_fits = record {
  reduced = fraction_of-IsReduced z d some;
  num_fits = omega (arith, fraction_of-num_size z d);
  den_fits = omega (arith, fraction_of-den_size z d);
}

-- fractions with the same two numbers are the same
pub same_numbers : (n : ℤ) (d : ℕ) (f : Fraction) → n ≡ f.num → d ≡ f.den → ratio n d ≡ f
same_numbers n d f nums dens = λ i. ratio (nums i) (dens i)

pub fits_by_numbers : (n : ℤ) (d : ℕ) (f : Fraction) → n ≡ f.num → d ≡ f.den → IsFitting f → IsFitting (ratio n d)
fits_by_numbers n d f nums dens fitting = subst IsFitting (sym (same_numbers n d f nums dens)) fitting

coprime_with_one : (n : ℕ) → gcd n 1 ≡ 1
coprime_with_one n = dvd_antisymm (gcd-IsGcd n 1).1 (one-dvd (gcd n 1))

pub whole_part-IsFitting : (f : Fraction) → IsFitting f → IsFitting (whole_part f)
whole_part-IsFitting f fitting = record {
  reduced = record { positive = omega arith; coprime = coprime_with_one (unsigned_abs (int_div f.num (pos f.den))) };
  num_fits = omega (arith, abs_div f.num f.den, div-le_self (unsigned_abs f.num) f.den, fitting.num_fits);
  den_fits = omega arith;
}

pub flipped-IsFitting : (n : ℤ) (d : ℕ) → 0 < unsigned_abs n → IsFitting (ratio n d) → IsFitting (flipped n d)
flipped-IsFitting (pos n) d some fitting = record {
  reduced = record { positive = some; coprime = gcd_comm d n ∙ fitting.reduced.coprime };
  num_fits = fitting.den_fits;
  den_fits = fitting.num_fits;
}
flipped-IsFitting (negsuc n) d some fitting = record {
  reduced = record { positive = some; coprime = ap (λ m. gcd m (suc n)) (abs_neg d) ∙ gcd_comm d (suc n) ∙ fitting.reduced.coprime };
  num_fits = omega (arith, abs_neg d, fitting.den_fits);
  den_fits = fitting.num_fits;
}

-- ---- sums and orders over the least common denominator

pub plus_times : (x y : ℤ) (k : ℕ) → (x +ℤ y) *ℤ pos k ≡ x *ℤ pos k +ℤ y *ℤ pos k
plus_times x y k =
    let e : (up (x +ℤ y) + down x + down y) * k ≡ (down (x +ℤ y) + up x + up y) * k = ap (λ n. n * k) (sum_is_lem x y) in
    omega (arith, ints)

-- the two denominators by their greatest common divisor
pub record Shares (b d g : ℕ) : Type 0 where
  pub some : 0 < g
  pub left : g * (b / g) ≡ b
  pub right : g * (d / g) ≡ d

divisor : (g u n : ℕ) → g * u ≡ n → u ∣ n
divisor g u n e = subst (λ k. u ∣ k) e (dvd-mul_left u g)

shares : (b d : ℕ) → 0 < d → Shares b d (gcd b d)
shares b d positive = record {
  some = gcd-positive b d positive;
  left = mul-div_cancel' (gcd b d) (gcd-IsGcd b d).0;
  right = mul-div_cancel' (gcd b d) (gcd-IsGcd b d).1;
}

-- a numerator over the least common denominator, times the common divisor, is that numerator times the other denominator
over_common_times : (n : ℤ) (d g : ℕ) → g * (d / g) ≡ d → over_common n d g *ℤ pos g ≡ n *ℤ pos d
over_common_times n d g whole = times_times n (d / g) g ∙ ap (λ m. n *ℤ pos m) (mul_comm (d / g) g ∙ whole)

pub positive_product : (a b : ℕ) → 0 < a → 0 < b → 0 < a * b
positive_product a b p q = mul-pos p q

positive_quotient : (g n : ℕ) → g * (n / g) ≡ n → 0 < n → 0 < n / g
positive_quotient g n whole some = factor g (n / g) (omega (arith, whole, some))
  where
    factor : (a b : ℕ) → 0 < a * b → 0 < b
    factor a zero h = omega (arith, h)
    factor a (suc b) h = omega arith

pub sum-common : (x y : Fraction) → 0 < x.den → 0 < y.den → (g : ℕ) → g ≡ gcd x.den y.den
    → fraction_of (over_common x.num y.den g +ℤ over_common y.num x.den g) (x.den / g * y.den) ≡ sum_of x y
unfolding sum_of
sum-common x y px py g same =
    let h : Shares x.den y.den g = subst (Shares x.den y.den) (sym same) (shares x.den y.den py) in
    let s = over_common x.num y.den g +ℤ over_common y.num x.den g in
    let e = x.den / g * y.den in
    let dens : x.den * y.den ≡ g * e = ap (λ n. n * y.den) (sym h.left) ∙ mul_assoc g (x.den / g) y.den in
    let nums : s *ℤ pos g ≡ x.num *ℤ pos y.den +ℤ y.num *ℤ pos x.den =
    plus_times (over_common x.num y.den g) (over_common y.num x.den g) g
    ∙ ap (λ z. z +ℤ over_common y.num x.den g *ℤ pos g) (over_common_times x.num y.den g h.right)
    ∙ ap (λ z. x.num *ℤ pos y.den +ℤ z) (over_common_times y.num x.den g h.left) in
    fraction_of-same s (x.num *ℤ pos y.den +ℤ y.num *ℤ pos x.den) e (x.den * y.den)
    (positive_product (x.den / g) y.den (positive_quotient g x.den h.left px) py) (positive_product x.den y.den px py)
    (ap (λ n. s *ℤ pos n) dens ∙ sym (times_times s g e) ∙ ap (λ z. z *ℤ pos e) nums)

lt_times : (x y : ℤ) (k : ℕ) → 0 < k → x <ℤ y → (x *ℤ pos k) <ℤ (y *ℤ pos k)
lt_times x y k some below =
    let parts : up x + down y + 1 ≤ up y + down x = omega (arith, ints) in
    let scaled : k * (up x + down y + 1) ≤ k * (up y + down x) = mul-le-mul_left k parts in
    omega (arith, ints)

match_map : {P Q R P' Q' R' : Type 0} (o : Ordering) → (P → P') → (Q → Q') → (R → R') → MatchOrdering o P Q R → MatchOrdering o P' Q' R'
match_map Less f g h p = f p
match_map Equal f g h p = g p
match_map Greater f g h p = h p

pub order-times : (x y : ℤ) (k : ℕ) → 0 < k → int_cmp x y ≡ int_cmp (x *ℤ pos k) (y *ℤ pos k)
order-times x y k some =
    int_cmp_is (x *ℤ pos k) (y *ℤ pos k) (int_cmp x y)
    (match_map (int_cmp x y) (lt_times x y k some) (λ e. ap (λ z. z *ℤ pos k) e) (lt_times y x k some) (int_ranks x y))

pub order-common : (x y : Fraction) → 0 < y.den → (g : ℕ) → g ≡ gcd x.den y.den
    → int_cmp (over_common x.num y.den g) (over_common y.num x.den g) ≡ order_of x y
unfolding order_of
order-common x y py g same =
    let h : Shares x.den y.den g = subst (Shares x.den y.den) (sym same) (shares x.den y.den py) in
    order-times (over_common x.num y.den g) (over_common y.num x.den g) g h.some
    ∙ ap (λ z. int_cmp z (over_common y.num x.den g *ℤ pos g)) (over_common_times x.num y.den g h.right)
    ∙ ap (λ z. int_cmp (x.num *ℤ pos y.den) z) (over_common_times y.num x.den g h.left)

-- ---- products and powers

abs_mul : (x y : ℤ) → unsigned_abs (x *ℤ y) ≡ unsigned_abs x * unsigned_abs y
abs_mul (pos a) (pos b) = refl
abs_mul (pos a) (negsuc b) = abs_neg (a * suc b)
abs_mul (negsuc a) (pos b) = abs_neg (suc a * b)
abs_mul (negsuc a) (negsuc b) = refl

mul_times : (x y : ℤ) (j k : ℕ) → (x *ℤ pos j) *ℤ (y *ℤ pos k) ≡ (x *ℤ y) *ℤ pos (j * k)
mul_times x y j k = same_in _ _ (
    rw (
      (product_is (x *ℤ pos j) (y *ℤ pos k)).0,
      (product_is (x *ℤ pos j) (y *ℤ pos k)).1,
      (product_is (x *ℤ y) (pos (j * k))).0,
      (product_is (x *ℤ y) (pos (j * k))).1,
      (product_is x (pos j)).0,
      (product_is x (pos j)).1,
      (product_is y (pos k)).0,
      (product_is y (pos k)).1,
      (product_is x y).0,
      (product_is x y).1,
    ) (omega arith))

-- the product, each numerator divided first by what it shares with the other denominator
pub product-crossed : (x y : Fraction) → IsReduced x → IsReduced y → (g h : ℕ) → g ≡ gcd (unsigned_abs x.num) y.den → h ≡ gcd (unsigned_abs y.num) x.den
    → ratio (int_div x.num (pos g) *ℤ int_div y.num (pos h)) (x.den / h * (y.den / g)) ≡ product_of x y
unfolding product_of
product-crossed x y left right g h across back =
    let p : Shares (unsigned_abs x.num) y.den g = subst (Shares (unsigned_abs x.num) y.den) (sym across) (shares (unsigned_abs x.num) y.den right.positive) in
    let q : Shares (unsigned_abs y.num) x.den h = subst (Shares (unsigned_abs y.num) x.den) (sym back) (shares (unsigned_abs y.num) x.den left.positive) in
    let n = int_div x.num (pos g) *ℤ int_div y.num (pos h) in
    let m = x.den / h * (y.den / g) in
    let own : g ∣ unsigned_abs x.num = subst (λ k. k ∣ unsigned_abs x.num) (sym across) (gcd-IsGcd (unsigned_abs x.num) y.den).0 in
    let others : h ∣ unsigned_abs y.num = subst (λ k. k ∣ unsigned_abs y.num) (sym back) (gcd-IsGcd (unsigned_abs y.num) x.den).0 in
    fraction_of-unique (ratio n m) (x.num *ℤ y.num) (x.den * y.den) (positive_product x.den y.den left.positive right.positive)
    (record {
      positive = positive_product (x.den / h) (y.den / g) (positive_quotient h x.den q.right left.positive) (positive_quotient g y.den p.right right.positive);
      coprime =
          ap (λ k. gcd k m) (abs_mul (int_div x.num (pos g)) (int_div y.num (pos h)) ∙ ap (λ k. k * unsigned_abs (int_div y.num (pos h))) (abs_div x.num g)
          ∙ ap (λ k. unsigned_abs x.num / g * k) (abs_div y.num h))
          ∙ crossed_coprime (unsigned_abs x.num) x.den (unsigned_abs y.num) y.den g h left.coprime right.coprime p q across back left.positive right.positive;
    })
    (ap (λ k. n *ℤ pos k) (dens x.den y.den g h (x.den / h) (y.den / g) q.right p.right)
    ∙ sym (times_times n (g * h) m)
    ∙ ap (λ z. z *ℤ pos m) (sym (mul_times (int_div x.num (pos g)) (int_div y.num (pos h)) g h)
    ∙ ap (λ z. z *ℤ (int_div y.num (pos h) *ℤ pos h)) (exact_div x.num g own)
    ∙ ap (λ z. x.num *ℤ z) (exact_div y.num h others)))
  where
    dens : (b d g h u v : ℕ) → h * u ≡ b → g * v ≡ d → b * d ≡ g * h * (u * v)
    dens b d g h u v p q = ap (λ k. k * d) (sym p) ∙ ap (λ k. h * u * k) (sym q) ∙ omega arith

    crossed_coprime : (a b c d g h : ℕ) → gcd a b ≡ 1 → gcd c d ≡ 1 → Shares a d g → Shares c b h → g ≡ gcd a d → h ≡ gcd c b → 0 < b → 0 < d
        → gcd (a / g * (c / h)) (b / h * (d / g)) ≡ 1
    crossed_coprime a b c d g h left right p q across back pb pd =
        let ag : a / g ∣ a = divisor g (a / g) a p.left in
        let ch : c / h ∣ c = divisor h (c / h) c q.left in
        let bh : b / h ∣ b = divisor h (b / h) b q.right in
        let dg : d / g ∣ d = divisor g (d / g) d p.right in
        let ad : gcd (a / g) (d / g) ≡ 1 = rw across (coprime-quotients a d pd) in
        let cb : gcd (c / h) (b / h) ≡ 1 = rw back (coprime-quotients c b pb) in
        coprime-mul (a / g) (c / h) (b / h * (d / g))
        (gcd_comm (a / g) (b / h * (d / g))
        ∙ coprime-mul (b / h) (d / g) (a / g) (gcd_comm (b / h) (a / g) ∙ coprime-divisors a b (a / g) (b / h) left ag bh) (gcd_comm (d / g) (a / g) ∙ ad))
        (gcd_comm (c / h) (b / h * (d / g))
        ∙ coprime-mul (b / h) (d / g) (c / h) (gcd_comm (b / h) (c / h) ∙ cb) (gcd_comm (d / g) (c / h) ∙ coprime-divisors c d (c / h) (d / g) right ch dg))

pub product_of-IsReduced : (x y : Fraction) → 0 < x.den → 0 < y.den → IsReduced (product_of x y)
unfolding product_of
product_of-IsReduced x y px py = fraction_of-IsReduced (x.num *ℤ y.num) (x.den * y.den) (positive_product x.den y.den px py)

abs_pow : (z : ℤ) (n : ℕ) → unsigned_abs (int_pow z n) ≡ unsigned_abs z ^ n
abs_pow (pos a) n = refl
abs_pow (negsuc a) n = by_sign (n % 2 == 0)
  where
    by_sign : (b : Bool) → unsigned_abs (cond b (pos (suc a ^ n)) (neg_ℤ (pos (suc a ^ n)))) ≡ suc a ^ n
    by_sign true = refl
    by_sign false = abs_neg (suc a ^ n)

pub power_of-IsReduced : (x : Fraction) (n : ℕ) → 0 < x.den → IsReduced (power_of x n)
unfolding power_of
power_of-IsReduced x n px = fraction_of-IsReduced (int_pow x.num n) (x.den ^ n) (omega (arith, one-le-pow n x.den px))

pub power-ratio : (x : Fraction) (n : ℕ) → IsReduced x → ratio (int_pow x.num n) (x.den ^ n) ≡ power_of x n
unfolding power_of
power-ratio x n reduced =
    sym (fraction_of-reduced (ratio (int_pow x.num n) (x.den ^ n)) (record {
      positive = omega (arith, one-le-pow n x.den reduced.positive);
      coprime = ap (λ m. gcd m (x.den ^ n)) (abs_pow x.num n) ∙ coprime-pow (unsigned_abs x.num) x.den n reduced.coprime;
    }))

-- ---- a number that was computed, tested by its size

pub small_told : (z p : ℤ) (n : ℕ) → FitsSigned w128 p → p ≡ z → n ≡ unsigned_abs (to_z w128 (of_z w128 p)) → n < 2 ^ 127
    → Some (to_z w128 (of_z w128 p)) ≡ some_if (fits z) z
small_told z p n own is size small =
    let plain : to_z w128 (of_z w128 p) ≡ z = to_z-of_z w128 p own ∙ is in
    let test : fits z ≡ true = lt-ltb (unsigned_abs z) (2 ^ 127) (subst (λ m. m < 2 ^ 127) (size ∙ ap unsigned_abs plain) small) in
    ap (λ m. Some m) plain ∙ ap (λ t. some_if t z) (sym test)

pub large_told : (z p : ℤ) (n : ℕ) → FitsSigned w128 p → p ≡ z → n ≡ unsigned_abs (to_z w128 (of_z w128 p)) → 2 ^ 127 ≤ n
    → None ≡ some_if (fits z) z
large_told z p n own is size large =
    let plain : to_z w128 (of_z w128 p) ≡ z = to_z-of_z w128 p own ∙ is in
    let test : fits z ≡ false = le-ltb (unsigned_abs z) (2 ^ 127) (subst (λ m. 2 ^ 127 ≤ m) (size ∙ ap unsigned_abs plain) large) in
    ap (λ t. some_if t z) (sym test)

-- ---- both numerators over the least common denominator, as the calls compute them

both_some : {A B : Type 0} (s t : Bool) (a : A) (b : B) → option_zip (some_if s a) (some_if t b) ≡ some_if (s && t) (a, b)
both_some true true a b = refl
both_some true false a b = refl
both_some false t a b = refl

-- a numerator over the common denominator is a product of two numbers that are handed on by their bits
pub numerator_told : (n s : ℤ) (d g : ℕ) → FitsSigned w128 n → FitsSigned w128 s → s ≡ pos (d / g) → (found : Option ℤ)
    → found ≡ some_if (fits (to_z w128 (of_z w128 n) *ℤ to_z w128 (of_z w128 s))) (to_z w128 (of_z w128 n) *ℤ to_z w128 (of_z w128 s))
    → found ≡ some_if (fits (over_common n d g)) (over_common n d g)
numerator_told n s d g own size is found told =
    told ∙ ap (λ m. some_if (fits (m *ℤ to_z w128 (of_z w128 s))) (m *ℤ to_z w128 (of_z w128 s))) (to_z-of_z w128 n own)
    ∙ ap (λ m. some_if (fits (n *ℤ m)) (n *ℤ m)) (to_z-of_z w128 s size ∙ is)

pub numerators_told : (x y : Fraction) (g : ℕ) → g ≡ gcd x.den y.den → (left right : Option ℤ)
    → left ≡ some_if (fits (over_common x.num y.den g)) (over_common x.num y.den g)
    → right ≡ some_if (fits (over_common y.num x.den g)) (over_common y.num x.den g)
    → option_zip left right ≡ some_if (can_compare x y) (over_common x.num y.den g, over_common y.num x.den g)
unfolding can_compare
numerators_told x y g same left right own others =
    let a = over_common x.num y.den g in
    let b = over_common y.num x.den g in
    ap (λ o. option_zip o right) own ∙ ap (λ o. option_zip (some_if (fits a) a) o) others ∙ both_some (fits a) (fits b) a b
    ∙ ap (λ k. some_if {A = ℤ × ℤ} (fits (over_common x.num y.den k) && fits (over_common y.num x.den k)) (a, b)) same

-- ---- the answers of the calls, from what their steps gave

some_from : {A : Type 0} (t : Bool) (a v : A) → Some a ≡ some_if t v → (t ≡ true) × (a ≡ v)
some_from true a v e = (refl, cc)
some_from false a v e = absurd (cc)

none_from : {A : Type 0} (t : Bool) (v : A) → None ≡ some_if t v → t ≡ false
none_from true v e = absurd (cc)
none_from false v e = refl

pub cmp_answer : (x y : Fraction) → 0 < y.den → (g : ℕ) → g ≡ gcd x.den y.den → (own others : ℤ) (r : Ordering)
    → ◌≡◌ {A = Option (ℤ × ℤ)} (Some (own, others)) (some_if (can_compare x y) (over_common x.num y.den g, over_common y.num x.den g)) → r ≡ int_cmp own others
    → Ok r ≡ cmp_of x y
cmp_answer x y py g same own others r e is =
    let parts = some_from {A = ℤ × ℤ} (can_compare x y) (own, others) (over_common x.num y.den g, over_common y.num x.den g) e in
    let value : r ≡ order_of x y = is ∙ ap (λ (q : ℤ × ℤ). int_cmp q.0 q.1) parts.1 ∙ order-common x y py g same in
    rw parts.0 (ap (λ o. Ok o) value)

sum_by_parts : (x y : Fraction) → 0 < x.den → 0 < y.den → (g : ℕ) → g ≡ gcd x.den y.den → (n : ℤ) (d : ℕ) (r : Fraction)
    → ◌≡◌ {A = Option (ℤ × ℕ)} (Some (n, d)) (some_if (can_add x y) (over_common x.num y.den g +ℤ over_common y.num x.den g, x.den / g * y.den))
    → r ≡ fraction_of n d → (can_add x y ≡ true) × (r ≡ sum_of x y)
sum_by_parts x y px py g same n d r e is =
    let parts = some_from {A = ℤ × ℕ} (can_add x y) (n, d) (over_common x.num y.den g +ℤ over_common y.num x.den g, x.den / g * y.den) e in
    (parts.0, is ∙ ap (λ (q : ℤ × ℕ). fraction_of q.0 q.1) parts.1 ∙ sum-common x y px py g same)

pub add_answer : (x y : Fraction) → 0 < x.den → 0 < y.den → (g : ℕ) → g ≡ gcd x.den y.den → (n : ℤ) (d : ℕ) (r : Fraction)
    → ◌≡◌ {A = Option (ℤ × ℕ)} (Some (n, d)) (some_if (can_add x y) (over_common x.num y.den g +ℤ over_common y.num x.den g, x.den / g * y.den))
    → r ≡ fraction_of n d → Ok r ≡ add_of x y
add_answer x y px py g same n d r e is =
    let parts = sum_by_parts x y px py g same n d r e is in
    rw parts.0 (ap (λ f. Ok f) parts.1)

-- the sum has the value of the sum
pub sum_of-HasValue : (x y : Fraction) → 0 < x.den → 0 < y.den → HasValue (sum_of x y) (x.num *ℤ pos y.den +ℤ y.num *ℤ pos x.den) (x.den * y.den)
unfolding sum_of
sum_of-HasValue x y px py = fraction_of-HasValue (x.num *ℤ pos y.den +ℤ y.num *ℤ pos x.den) (x.den * y.den) (positive_product x.den y.den px py)

pub add_value : (x y : Fraction) → 0 < x.den → 0 < y.den → (g : ℕ) → g ≡ gcd x.den y.den → (n : ℤ) (d : ℕ) (r : Fraction)
    → ◌≡◌ {A = Option (ℤ × ℕ)} (Some (n, d)) (some_if (can_add x y) (over_common x.num y.den g +ℤ over_common y.num x.den g, x.den / g * y.den))
    → r ≡ fraction_of n d
    → HasValue r (x.num *ℤ pos y.den +ℤ y.num *ℤ pos x.den) (x.den * y.den)
add_value x y px py g same n d r e is =
    let parts = sum_by_parts x y px py g same n d r e is in
    subst (λ f. HasValue f (x.num *ℤ pos y.den +ℤ y.num *ℤ pos x.den) (x.den * y.den)) (sym parts.1) (sum_of-HasValue x y px py)

fits_from : (f : Fraction) (n : ℤ) (m : ℕ) → ratio n m ≡ f → IsReduced f → fits n ≡ true → fits_size m ≡ true
    → IsFitting (ratio n m) × (Ok (ratio n m) ≡ fitting f)
fits_from f n m e reduced p q =
    let own : IsReduced (ratio n m) = subst IsReduced (sym e) reduced in
    (record { reduced = own; num_fits = ltb-true _ _ p; den_fits = ltb-true _ _ q }, subst (λ h. Ok (ratio n m) ≡ fitting h) e (rw (p, q) refl))

wide_from_num : (f : Fraction) (n : ℤ) (m : ℕ) → ratio n m ≡ f → fits n ≡ false → Err Wide ≡ fitting f
wide_from_num f n m e p = subst (λ h. Err Wide ≡ fitting h) e (rw p refl)

wide_from_den : (f : Fraction) (n : ℤ) (m : ℕ) → ratio n m ≡ f → fits_size m ≡ false → Err Wide ≡ fitting f
wide_from_den f n m e p = subst (λ h. Err Wide ≡ fitting h) e (by_num (fits n) refl)
  where
    by_num : (t : Bool) → fits n ≡ t → Err Wide ≡ fitting (ratio n m)
    by_num true q = rw (q, p) refl
    by_num false q = rw q refl

-- a fraction by its two numbers, where both fit
pub parts_answer : (f : Fraction) (a : ℤ) (b : ℕ) → ratio a b ≡ f → IsReduced f → (n : ℤ) (m : ℕ) → Some n ≡ some_if (fits a) a
    → Some m ≡ some_if (fits_size b) b
    → IsFitting (ratio n m) × (Ok (ratio n m) ≡ fitting f)
parts_answer f a b e reduced n m left right =
    let p = some_from (fits a) n a left in
    let q = some_from (fits_size b) m b right in
    let own : ratio n m ≡ f = same_numbers n m (ratio a b) p.1 q.1 ∙ e in
    fits_from f n m own reduced (ap fits p.1 ∙ p.0) (ap fits_size q.1 ∙ q.0)

pub wide_num_answer : (f : Fraction) (a : ℤ) (b : ℕ) → ratio a b ≡ f → None ≡ some_if (fits a) a → Err Wide ≡ fitting f
wide_num_answer f a b e h = wide_from_num f a b e (none_from (fits a) a h)

pub wide_den_answer : (f : Fraction) (a : ℤ) (b : ℕ) → ratio a b ≡ f → None ≡ some_if (fits_size b) b → Err Wide ≡ fitting f
wide_den_answer f a b e h = wide_from_den f a b e (none_from (fits_size b) b h)

-- ---- a sum over the least common denominator, as the call computes it

pub common_den-positive : (b d g : ℕ) → 0 < b → 0 < d → g ≡ gcd b d → 0 < b / g * d
common_den-positive b d g pb pd same =
    let h : Shares b d g = subst (Shares b d) (sym same) (shares b d pd) in
    positive_product (b / g) d (positive_quotient g b h.left pb) pd

pub sum_told : (x y : Fraction) (g : ℕ) → g ≡ gcd x.den y.den → (l r : ℤ) → FitsSigned w128 l → FitsSigned w128 r
    → ◌≡◌ {A = Option (ℤ × ℤ)} (Some (l, r)) (some_if (can_compare x y) (over_common x.num y.den g, over_common y.num x.den g))
    → (b d : ℕ) → b ≡ x.den → d ≡ y.den
    → (num : Option ℤ) → num ≡ some_if (fits (to_z w128 (of_z w128 l) +ℤ to_z w128 (of_z w128 r))) (to_z w128 (of_z w128 l) +ℤ to_z w128 (of_z w128 r))
    → (den : Option ℕ) → den ≡ some_if (fits_size (b / g * d)) (b / g * d)
    → option_zip num den ≡ some_if (can_add x y) (over_common x.num y.den g +ℤ over_common y.num x.den g, x.den / g * y.den)
unfolding can_add
sum_told x y g same l r lf rf e b d left right num n den m =
    let s = over_common x.num y.den g +ℤ over_common y.num x.den g in
    let k = x.den / g * y.den in
    let parts = some_from {A = ℤ × ℤ} (can_compare x y) (l, r) (over_common x.num y.den g, over_common y.num x.den g) e in
    let nums : num ≡ some_if (fits s) s =
    n ∙ ap (λ z. some_if (fits (z +ℤ to_z w128 (of_z w128 r))) (z +ℤ to_z w128 (of_z w128 r))) (to_z-of_z w128 l lf)
    ∙ ap (λ z. some_if (fits (l +ℤ z)) (l +ℤ z)) (to_z-of_z w128 r rf)
    ∙ ap (λ (q : ℤ × ℤ). some_if (fits (q.0 +ℤ q.1)) (q.0 +ℤ q.1)) parts.1 in
    let dens : den ≡ some_if (fits_size k) k =
    m ∙ ap (λ z. some_if (fits_size (z / g * d)) (z / g * d)) left ∙ ap (λ z. some_if (fits_size (x.den / g * z)) (x.den / g * z)) right in
    ap (λ o. option_zip o den) nums ∙ ap (λ o. option_zip (some_if (fits s) s) o) dens ∙ both_some (fits s) (fits_size k) s k
    ∙ ap (λ t. some_if {A = ℤ × ℕ} (t && fits s && fits_size k) (s, k)) (sym parts.0)
    ∙ ap (λ h. some_if {A = ℤ × ℕ} (can_compare x y && fits (over_common x.num y.den h +ℤ over_common y.num x.den h) && fits_size (x.den / h * y.den)) (s, k)) same

-- two fractions that can't be compared can't be added
pub no_sum : (x y : Fraction) (v : ℤ × ℤ) (w : ℤ × ℕ) → None ≡ some_if (can_compare x y) v → None ≡ some_if (can_add x y) w
unfolding can_add
no_sum x y v w e =
    let g = gcd x.den y.den in
    ap (λ t. some_if (t && fits (over_common x.num y.den g +ℤ over_common y.num x.den g) && fits_size (x.den / g * y.den)) w)
    (sym (none_from (can_compare x y) v e))

-- what holds of two numbers that passed their tests holds of the pair of them
pub both_known : (P : ℤ × ℕ → Type 0) (s t : Bool) (a : ℤ) (b : ℕ) → (s ≡ true → t ≡ true → P (a, b)) → (num : Option ℤ) (den : Option ℕ)
    → num ≡ some_if s a → den ≡ some_if t b → IfSome (option_zip num den) P
both_known P s t a b known num den left right =
    subst (λ o. IfSome o P) (sym (ap (λ o. option_zip o den) left ∙ ap (λ o. option_zip (some_if s a) o) right ∙ both_some s t a b)) (of s t known)
  where
    of : (s t : Bool) → (s ≡ true → t ≡ true → P (a, b)) → IfSome (some_if (s && t) (a, b)) P
    of true true h = h refl refl
    of true false h = tt
    of false t h = tt
