-- Fractions over one denominator, as the values are over a million: their sums are those of the numerators.
use Rattle.std.proofs.Common.{◌≡◌, ◌∙◌, ℕ, ◌*◌, ◌<◌, sym, ap, arith}
use Rattle.std.specs.Prelude.{ℤ, pos, ◌+ℤ◌, ◌*ℤ◌}
use Rattle.dh_base.specs.Fractions.{fraction_of, sum_of, of_micros}
use Rattle.dh_base.proofs.FractionLemmas.{fraction_of-IsReduced, fraction_of-HasValue, fraction_of-same, times_times, times_swap, plus_times}
use Rattle.dh_base.proofs.FractionLemmas.{positive_product}

-- a numerator of a reduced fraction times the other's denominator, times the common one, is the given numerator times both
over_both : (n z : ℤ) (b c d : ℕ) → n *ℤ pos d ≡ z *ℤ pos b → (n *ℤ pos c) *ℤ pos d ≡ z *ℤ pos (b * c)
over_both n z b c d e = times_swap n c d ∙ ap (λ x. x *ℤ pos c) e ∙ times_times z b c

over_both_turned : (n z : ℤ) (b c d : ℕ) → n *ℤ pos d ≡ z *ℤ pos c → (n *ℤ pos b) *ℤ pos d ≡ z *ℤ pos (b * c)
over_both_turned n z b c d e = over_both n z c b d e ∙ ap (λ k. z *ℤ pos k) (commuted c b)
  where
    commuted : (c b : ℕ) → c * b ≡ b * c
    commuted c b = omega arith

pub sum_of-over_one : (a b : ℤ) (d : ℕ) → 0 < d → sum_of (fraction_of a d) (fraction_of b d) ≡ fraction_of (a +ℤ b) d
unfolding sum_of
sum_of-over_one a b d some =
    let x = fraction_of a d in
    let y = fraction_of b d in
    fraction_of-same (x.num *ℤ pos y.den +ℤ y.num *ℤ pos x.den) (a +ℤ b) (x.den * y.den) d
    (positive_product x.den y.den (fraction_of-IsReduced a d some).positive (fraction_of-IsReduced b d some).positive) some
    (plus_times (x.num *ℤ pos y.den) (y.num *ℤ pos x.den) d
    ∙ ap (λ z. z +ℤ (y.num *ℤ pos x.den) *ℤ pos d) (over_both x.num a x.den y.den d (fraction_of-HasValue a d some))
    ∙ ap (λ z. a *ℤ pos (x.den * y.den) +ℤ z) (over_both_turned y.num b x.den y.den d (fraction_of-HasValue b d some))
    ∙ sym (plus_times a b (x.den * y.den)))

-- ---- values

pub sum_of-micros : (a b : ℤ) → sum_of (of_micros a) (of_micros b) ≡ of_micros (a +ℤ b)
sum_of-micros a b = sum_of-over_one a b 1000000 (omega arith)
