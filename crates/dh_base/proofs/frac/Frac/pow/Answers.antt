use Rattle.std.proofs.Common.{◌≡◌, ◌∙◌, ℕ, ◌^◌, sym, ap, subst, rules}
use Rattle.std.specs.Prelude.{Ok, Err}
use Rattle.std.specs.Int.{w128, int_pow, cast_signed as to_z, cast_unsigned as of_z}
use Rattle.std.specs.Int.RustNames.{FitsSigned}
use Rattle.std.proofs.lemmas.Int.{to_z-of_z}
use Rattle.dh_base.specs.declared.plain.NumFault.TheVariants.{Wide}
use Rattle.dh_base.specs.Fractions.{Fraction, ratio, power_of, IsReduced, IsFitting, pow_of, fitting}
use Rattle.dh_base.proofs.FractionLemmas.{power-ratio, power_of-IsReduced, parts_answer, wide_num_answer, wide_den_answer}
use Rattle.dh_base.proofs.frac.Frac.pow.Goals as goal

-- the two numbers that the body computes are those of the power
told : (x : Fraction) (n : ℕ) → IsReduced x → FitsSigned w128 x.num → ratio (int_pow (to_z w128 (of_z w128 x.num)) n) (x.den ^ n) ≡ power_of x n
told x n reduced fits = ap (λ z. ratio (int_pow z n) (x.den ^ n)) (to_z-of_z w128 x.num fits) ∙ power-ratio x n reduced

numbers-In_default : (c : goal.In_default)
    → ratio (int_pow (to_z w128 (of_z w128 c.self.inside.num)) c.args.n) (c.self.inside.den ^ c.args.n)
    ≡ power_of (ratio c.self.inside.num c.self.inside.den) c.args.n
numbers-In_default c =
    let fits : FitsSigned w128 c.self.inside.num = search rules in
    told (ratio c.self.inside.num c.self.inside.den) c.args.n c.self.invariant.reduced fits

numbers-In_default-size_power : (c : goal.In_default-size_power)
    → ratio (int_pow (to_z w128 (of_z w128 c.self.inside.num)) c.args.n) (c.self.inside.den ^ c.args.n)
    ≡ power_of (ratio c.self.inside.num c.self.inside.den) c.args.n
numbers-In_default-size_power c =
    let fits : FitsSigned w128 c.self.inside.num = search rules in
    told (ratio c.self.inside.num c.self.inside.den) c.args.n c.self.invariant.reduced fits

numbers-In-Some-size_power : (c : goal.In-Some-size_power)
    → ratio (int_pow (to_z w128 (of_z w128 c.self.inside.num)) c.args.n) (c.self.inside.den ^ c.args.n)
    ≡ power_of (ratio c.self.inside.num c.self.inside.den) c.args.n
numbers-In-Some-size_power c =
    let fits : FitsSigned w128 c.self.inside.num = search rules in
    told (ratio c.self.inside.num c.self.inside.den) c.args.n c.self.invariant.reduced fits

pub returns-in_default : goal.returns-in_default
returns-in_default c =
    subst (λ (f : Fraction). Err Wide ≡ pow_of f c.args.n) c.self.view_is
    (wide_num_answer _ _ _ (numbers-In_default c) (sym c.in_default.is ∙ c.power.ensures))

pub returns-in_default-size_power : goal.returns-in_default-size_power
returns-in_default-size_power c =
    subst (λ (f : Fraction). Err Wide ≡ pow_of f c.args.n) c.self.view_is
    (wide_den_answer _ _ _ (numbers-In_default-size_power c) (sym c.in_default-size_power.is ∙ c.size_power.ensures))

computed : (c : goal.In-Some-size_power)
    → IsFitting (ratio c.in-Some.num c.in-Some-size_power.den)
    × (Ok (ratio c.in-Some.num c.in-Some-size_power.den) ≡ fitting (power_of (ratio c.self.inside.num c.self.inside.den) c.args.n))
computed c =
    parts_answer _ _ _ (numbers-In-Some-size_power c) (power_of-IsReduced _ c.args.n c.self.invariant.reduced.positive)
    c.in-Some.num c.in-Some-size_power.den (sym c.in-Some.is ∙ c.power.ensures) (sym c.in-Some-size_power.is ∙ c.size_power.ensures)

plain : (c : goal.In-Some-size_power) → to_z w128 (of_z w128 c.in-Some.num) ≡ c.in-Some.num
plain c = let fits : FitsSigned w128 c.in-Some.num = search rules in to_z-of_z w128 c.in-Some.num fits

pub invariant_of-result : goal.invariant_of-result
invariant_of-result c = subst (λ n. IsFitting (ratio n c.in-Some-size_power.den)) (sym (plain c)) (computed c).0

pub returns : goal.returns
returns c =
    subst (λ (f : Fraction). Ok (ratio (to_z w128 (of_z w128 c.in-Some.num)) c.in-Some-size_power.den) ≡ pow_of f c.args.n) c.self.view_is
    (ap (λ n. Ok (ratio n c.in-Some-size_power.den)) (plain c) ∙ (computed c).1)
