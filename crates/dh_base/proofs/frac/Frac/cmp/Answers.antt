use Rattle.std.proofs.Common.{◌∙◌, sym, subst, rules}
use Rattle.std.specs.Int.{w128}
use Rattle.std.specs.Int.RustNames.{FitsSigned}
use Rattle.std.proofs.lemmas.Int.{to_z-of_z}
use Rattle.std.specs.Prelude.{◌<◌}
use Rattle.dh_base.specs.Fractions.{Fraction}
use Rattle.dh_base.proofs.FractionLemmas.{cmp_answer}
use Rattle.dh_base.proofs.frac.Frac.cmp.Goals as goal

pub returns-in-Some : goal.returns-in-Some
returns-in-Some c =
    let own : FitsSigned w128 c.in-Some.own = search rules in
    let others : FitsSigned w128 c.in-Some.others = search rules in
    cmp_answer c.args.self c.args.other (subst (λ (f : Fraction). 0 < f.den) c.other.view_is c.other.invariant.reduced.positive) c.common_divisor-shared.result
    (search rules) c.in-Some.own c.in-Some.others c.cmp.result
    (sym c.in-Some.is ∙ c.over_common.ensures) (simp to_z-of_z at c.cmp.ensures)
