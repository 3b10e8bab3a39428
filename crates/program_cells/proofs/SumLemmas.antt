-- Sums of whole numbers.
use Rattle.std.proofs.Common.{◌≡◌, ◌∙◌, ◌<◌, ◌^◌, ◌*◌, ◌/◌, ◌&&◌, Bool, true, false, ℤ, pos}
use Rattle.std.proofs.Common.{◌+ℤ◌, ◌*ℤ◌, unsigned_abs, Option, Some, None, of_z, refl, sym, ap, subst, arith}
use Rattle.std.specs.Int.{w128}
use Rattle.std.specs.Prelude.{option_map, IfSome}
use Rattle.std.proofs.lemmas.Bool.{and_from}
use Rattle.std.proofs.lemmas.Bool.Decides.{nat_tests}
use Rattle.std.proofs.lemmas.Int.{ints}
use Rattle.dh_base.specs.Fractions.{Fraction, IsReduced, fraction_of, of_micros, ratio, gcd, over_common, fits}
use Rattle.dh_base.specs.Fractions.{fits_size, can_compare, can_add, add_of, sum_of, or_wide, some_if}
use Rattle.dh_base.proofs.FractionLemmas.{fraction_of-reduced, fraction_of-same}
use Rattle.dh_base.proofs.GcdLemmas.{gcd-positive, gcd-le}
use Rattle.dh_base.proofs.MillionthLemmas.{sum_of-over_one}
use Rattle.program_cells.specs.Value.{unless_fault}

whole-reduced : (z : ℤ) → IsReduced (ratio z 1)
whole-reduced z =
    let some = gcd-positive (unsigned_abs z) 1 (omega arith) in
    let most = gcd-le (unsigned_abs z) 1 (omega arith) in
    record { positive = omega arith; coprime = omega (arith, some, most) }

whole : (z : ℤ) → fraction_of z 1 ≡ ratio z 1
whole z = fraction_of-reduced (ratio z 1) (whole-reduced z)

one-divisor : gcd 1 1 ≡ 1
one-divisor = let some = gcd-positive 1 1 (omega arith) in let most = gcd-le 1 1 (omega arith) in omega (arith, some, most)

over-one : (z : ℤ) → over_common z 1 (gcd 1 1) ≡ z
over-one z = ap (over_common z 1) one-divisor ∙ times_one z
  where
    times_one : (z : ℤ) → z *ℤ pos 1 ≡ z
    times_one z = omega (arith, ints)

can-add : (s n : ℤ) → fits s ≡ true → fits n ≡ true → fits (s +ℤ n) ≡ true → can_add (ratio s 1) (ratio n 1) ≡ true
unfolding can_add can_compare
can-add s n one other both =
    and_from (can_compare (ratio s 1) (ratio n 1) && fits (over_common s 1 (gcd 1 1) +ℤ over_common n 1 (gcd 1 1))) (fits_size (1 / gcd 1 1 * 1))
    (and_from (can_compare (ratio s 1) (ratio n 1)) (fits (over_common s 1 (gcd 1 1) +ℤ over_common n 1 (gcd 1 1)))
    (and_from (fits (over_common s 1 (gcd 1 1))) (fits (over_common n 1 (gcd 1 1))) (ap fits (over-one s) ∙ one) (ap fits (over-one n) ∙ other))
    (ap fits (ap (λ x. x +ℤ over_common n 1 (gcd 1 1)) (over-one s) ∙ ap (λ x. s +ℤ x) (over-one n)) ∙ both))
    (ap (λ g. fits_size (1 / g * 1)) one-divisor)

added : (s n : ℤ) → fits s ≡ true → fits n ≡ true → fits (s +ℤ n) ≡ true
    → unless_fault (add_of (fraction_of s 1) (fraction_of n 1)) ≡ Some (fraction_of (s +ℤ n) 1)
added s n one other both =
    let can : can_add (fraction_of s 1) (fraction_of n 1) ≡ true =
    ap (λ x. can_add x (fraction_of n 1)) (whole s) ∙ ap (can_add (ratio s 1)) (whole n) ∙ can-add s n one other both in
    ap (λ b. unless_fault (or_wide b (sum_of (fraction_of s 1) (fraction_of n 1)))) can ∙ ap Some (sum_of-over_one s n 1 (omega arith))

whole-more : (sum : ℤ) (sample : Fraction) → unsigned_abs sum < 2 ^ 127 → unsigned_abs sample.num < 2 ^ 127 → IsReduced sample → sample.den ≡ 1
    → fits (sum +ℤ sample.num) ≡ true → unless_fault (add_of (fraction_of sum 1) sample) ≡ Some (fraction_of (sum +ℤ sample.num) 1)
whole-more sum sample sum_fits sample_fits reduced whole both =
    let is : sample ≡ fraction_of sample.num 1 = sym (ap (fraction_of sample.num) (sym whole) ∙ fraction_of-reduced sample reduced) in
    ap (λ x. unless_fault (add_of (fraction_of sum 1) x)) is
    ∙ added sum sample.num (grind (arith, nat_tests)) (grind (arith, nat_tests)) both

if-mapped : {X Y : Type 0} (f : X → Y) (P : Y → Type 0) (o : Option X) → IfSome (option_map f o) P → IfSome o (λ x. P (f x))
if-mapped f P None is = tt
if-mapped f P (Some x) is = is

-- a whole number more, where the sum isn't too wide
pub whole-if : {W : Type 0} (number : W → ℤ) (sum n d : ℤ) (sample : Fraction) (result : Option W) → n ≡ sample.num → d ≡ pos sample.den → of_z w128 d ≡ 1
    → unsigned_abs sum < 2 ^ 127 → unsigned_abs n < 2 ^ 127 → IsReduced sample → option_map number result ≡ some_if (fits (sum +ℤ n)) (sum +ℤ n)
    → IfSome result (λ next. unless_fault (add_of (fraction_of sum 1) sample) ≡ Some (fraction_of (number next) 1))
whole-if number sum n d sample result num den one sum_fits n_fits reduced is =
    if-mapped number Next result (subst (λ r. IfSome r Next) (sym is) (by (fits (sum +ℤ n)) refl))
  where
    Next : ℤ → Type 0
    Next next = unless_fault (add_of (fraction_of sum 1) sample) ≡ Some (fraction_of next 1)

    by : (b : Bool) → fits (sum +ℤ n) ≡ b → IfSome (some_if b (sum +ℤ n)) Next
    by true fit =
        let whole : sample.den ≡ 1 = sym (ap (of_z w128) den) ∙ one in
        subst (λ m. Next (sum +ℤ m)) (sym num)
        (whole-more sum sample sum_fits (subst (λ m. unsigned_abs m < 2 ^ 127) num n_fits) reduced whole (ap (λ m. fits (sum +ℤ m)) (sym num) ∙ fit))
    by false fit = tt

times-one : (z : ℤ) → z *ℤ pos 1 ≡ z
times-one z = omega (arith, ints)

-- a whole number by its millionths
pub micros-whole : (whole micros : ℤ) → micros ≡ whole *ℤ pos 1000000 → fraction_of whole 1 ≡ of_micros micros
micros-whole whole micros is = fraction_of-same whole micros 1 1000000 (omega arith) (omega arith) (sym is ∙ sym (times-one micros))
