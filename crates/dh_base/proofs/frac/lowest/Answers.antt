use Rattle.std.proofs.Common.{◌≡◌, ◌∙◌, ℕ, ◌/◌, ap}
use Rattle.std.specs.Prelude.{ℤ, pos, int_div, unsigned_abs}
use Rattle.std.specs.Int.{w128, cast_signed as to_z, cast_unsigned as of_z}
use Rattle.std.specs.Int.RustNames.{FitsSigned}
use Rattle.std.proofs.lemmas.Int.{to_z-of_z}
use Rattle.dh_base.specs.Fractions.{gcd, fraction_of}
use Rattle.dh_base.proofs.FractionLemmas.{fraction_of-IsFitting, same_numbers, fits_by_numbers}
use Rattle.dh_base.proofs.frac.lowest.Goals as goal

-- the two numbers that the body computes are those of the definition
numbers : (n : ℤ) (d : ℕ) (r : ℤ) (g s : ℕ) → FitsSigned w128 n → FitsSigned w128 r → s ≡ unsigned_abs (to_z w128 (of_z w128 n)) → g ≡ gcd s d
    → r ≡ int_div (to_z w128 (of_z w128 n)) (pos g)
    → (to_z w128 (of_z w128 r) ≡ (fraction_of n d).num) × (d / g ≡ (fraction_of n d).den)
unfolding fraction_of
numbers n d r g s num_fits fits size common value =
    let own : to_z w128 (of_z w128 n) ≡ n = to_z-of_z w128 n num_fits in
    let same : g ≡ gcd (unsigned_abs n) d = common ∙ ap (λ k. gcd k d) (size ∙ ap unsigned_abs own) in
    (to_z-of_z w128 r fits ∙ value ∙ ap (λ z. int_div z (pos g)) own ∙ ap (λ k. int_div n (pos k)) same, ap (λ k. d / k) same)

computed : (c : goal.After-divided)
    → (to_z w128 (of_z w128 c.divided.result) ≡ (fraction_of c.args.num c.args.den).num)
    × (c.args.den / c.common_divisor-divisor.result ≡ (fraction_of c.args.num c.args.den).den)
computed c =
    let fits : FitsSigned w128 c.divided.result = record { sfits = c.divided.type_inv } in
    numbers c.args.num c.args.den c.divided.result c.common_divisor-divisor.result c.unsigned_abs.result c.ranges.num fits c.unsigned_abs.ensures.value
    c.common_divisor-divisor.ensures.value c.divided.ensures

pub invariant_of-result : goal.invariant_of-result
invariant_of-result c =
    fits_by_numbers _ _ (fraction_of c.args.num c.args.den) (computed c).0 (computed c).1
    (fraction_of-IsFitting c.args.num c.args.den c.requires.positive c.requires.num_fits c.requires.den_fits)

pub returns : goal.returns
returns c = same_numbers _ _ (fraction_of c.args.num c.args.den) (computed c).0 (computed c).1
