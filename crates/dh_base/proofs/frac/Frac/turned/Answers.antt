use Rattle.std.proofs.Common.{◌≡◌, sym, subst, rules, ◌<◌, arith}
use Rattle.std.specs.Prelude.{unsigned_abs}
use Rattle.std.specs.Int.{w128, cast_signed as to_z}
use Rattle.dh_base.specs.Fractions.{Fraction, ratio, flipped, IsFitting}
use Rattle.dh_base.proofs.FractionLemmas.{flipped-IsFitting}
use Rattle.dh_base.proofs.frac.Frac.turned.Goals as goal

pub invariant_of-result : goal.invariant_of-result
invariant_of-result c =
    let some : 0 < unsigned_abs c.args.self.num = omega (arith, c.requires) in
    let own : 0 < unsigned_abs c.self.inside.num = subst (λ (f : Fraction). 0 < unsigned_abs f.num) (sym c.self.view_is) some in
    let same : ratio (to_z w128 c.if-self-lt0.result-bits) c.unsigned_abs.result ≡ flipped c.self.inside.num c.self.inside.den = search rules in
    subst IsFitting (sym same) (flipped-IsFitting c.self.inside.num c.self.inside.den own c.self.invariant)
