use Rattle.std.proofs.Common.{◌≡◌, ◌∙◌, sym, ap, subst, rules}
use Rattle.std.specs.Prelude.{◌<◌}
use Rattle.std.specs.Int.{w128}
use Rattle.std.specs.Int.RustNames.{FitsSigned}
use Rattle.std.proofs.lemmas.Int.{to_z-of_z}
use Rattle.dh_base.specs.Fractions.{Fraction, fraction_of, gcd}
use Rattle.dh_base.proofs.FractionLemmas.{add_answer, add_value}
use Rattle.dh_base.proofs.frac.Frac.add.Goals as goal

own_positive : (c : goal.After-lowest) → 0 < c.args.self.den
own_positive c = subst (λ (f : Fraction). 0 < f.den) c.self.view_is c.self.invariant.reduced.positive

other_positive : (c : goal.After-lowest) → 0 < c.args.other.den
other_positive c = subst (λ (f : Fraction). 0 < f.den) c.other.view_is c.other.invariant.reduced.positive

common : (c : goal.After-lowest) → c.common_divisor-shared.result ≡ gcd c.args.self.den c.args.other.den
common c = search rules

reduced : (c : goal.After-lowest) → c.lowest.result ≡ fraction_of c.in-Some.num c.in-Some.den
reduced c =
    let fits : FitsSigned w128 c.in-Some.num = search rules in
    c.lowest.ensures ∙ ap (λ n. fraction_of n c.in-Some.den) (to_z-of_z w128 c.in-Some.num fits)

pub returns-in-Some-clause-answer : goal.returns-in-Some-clause-answer
returns-in-Some-clause-answer c =
    add_answer c.args.self c.args.other (own_positive c) (other_positive c) c.common_divisor-shared.result (common c) c.in-Some.num c.in-Some.den
    c.lowest.result
    (sym c.in-Some.is ∙ c.sum_over_common.ensures.value) (reduced c)

pub returns-in-Some-clause-sum : goal.returns-in-Some-clause-sum
returns-in-Some-clause-sum c =
    add_value c.args.self c.args.other (own_positive c) (other_positive c) c.common_divisor-shared.result (common c) c.in-Some.num c.in-Some.den c.lowest.result
    (sym c.in-Some.is ∙ c.sum_over_common.ensures.value) (reduced c)
