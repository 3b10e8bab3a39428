use Rattle.std.proofs.Common.{◌∙◌, refl, ap, rules}
use Rattle.std.specs.Int.{w128}
use Rattle.std.specs.Int.RustNames.{FitsSigned}
use Rattle.std.proofs.lemmas.Int.{to_z-of_z}
use Rattle.std.specs.Prelude.{pos, int_div}
use Rattle.dh_base.specs.Fractions.{ratio, whole_part}
use Rattle.dh_base.proofs.FractionLemmas.{whole_part-IsFitting, fits_by_numbers}
use Rattle.dh_base.proofs.frac.Frac.cut.Goals as goal

pub invariant_of-result : goal.invariant_of-result
invariant_of-result c =
    let x = ratio c.self.inside.num c.self.inside.den in
    let fits : FitsSigned w128 c.divided.result = record { sfits = c.divided.type_inv } in
    let own : FitsSigned w128 c.self.inside.num = search rules in
    fits_by_numbers _ 1 (whole_part x)
    (to_z-of_z w128 c.divided.result fits ∙ c.divided.ensures ∙ ap (λ n. int_div n (pos c.self.inside.den)) (to_z-of_z w128 c.self.inside.num own))
    refl (whole_part-IsFitting x c.self.invariant)
