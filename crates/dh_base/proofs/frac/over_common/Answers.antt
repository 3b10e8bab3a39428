use Rattle.std.proofs.Common.{◌≡◌, ◌∙◌, subst, rules}
use Rattle.std.specs.Prelude.{Option, ℤ}
use Rattle.std.specs.Int.{w128}
use Rattle.std.specs.Int.RustNames.{FitsSigned}
use Rattle.dh_base.specs.Fractions.{Fraction, ratio, gcd, some_if, can_compare, over_common}
use Rattle.dh_base.proofs.FractionLemmas.{numerator_told, numerators_told}
use Rattle.dh_base.proofs.frac.over_common.Goals as goal

-- both numerators of the two fractions as the body reads them
told : (c : goal.After-zip) → c.args.shared ≡ gcd c.x.inside.den c.y.inside.den
    → ◌≡◌ {A = Option (ℤ × ℤ)} c.zip.result
    (some_if (can_compare (ratio c.x.inside.num c.x.inside.den) (ratio c.y.inside.num c.y.inside.den))
    (over_common c.x.inside.num c.y.inside.den c.args.shared, over_common c.y.inside.num c.x.inside.den c.args.shared))
told c shared =
    let own : FitsSigned w128 c.x.inside.num = search rules in
    let others : FitsSigned w128 c.y.inside.num = search rules in
    c.zip.ensures
    ∙ numerators_told (ratio c.x.inside.num c.x.inside.den) (ratio c.y.inside.num c.y.inside.den) c.args.shared shared
    c.product-left.result c.product-right.result
    (numerator_told c.x.inside.num c.signed.result c.y.inside.den c.args.shared own (record { sfits = c.signed.type_inv }) c.signed.ensures
    c.product-left.result c.product-left.ensures)
    (numerator_told c.y.inside.num c.signed-2.result c.x.inside.den c.args.shared others (record { sfits = c.signed-2.type_inv }) c.signed-2.ensures
    c.product-right.result c.product-right.ensures)

-- and so of the two that were handed in
seen : (c : goal.After-zip) (x y : Fraction) → ratio c.x.inside.num c.x.inside.den ≡ x → ratio c.y.inside.num c.y.inside.den ≡ y
    → c.args.shared ≡ gcd x.den y.den
    → ◌≡◌ {A = Option (ℤ × ℤ)} c.zip.result (some_if (can_compare x y) (over_common x.num y.den c.args.shared, over_common y.num x.den c.args.shared))
seen c x y left right =
    subst (λ (f : Fraction). c.args.shared ≡ gcd f.den y.den
    → ◌≡◌ {A = Option (ℤ × ℤ)} c.zip.result (some_if (can_compare f y) (over_common f.num y.den c.args.shared, over_common y.num f.den c.args.shared))) left
    (subst (λ (f : Fraction). c.args.shared ≡ gcd c.x.inside.den f.den
    → ◌≡◌ {A = Option (ℤ × ℤ)} c.zip.result (some_if (can_compare (ratio c.x.inside.num c.x.inside.den) f)
    (over_common c.x.inside.num f.den c.args.shared, over_common f.num c.x.inside.den c.args.shared))) right (told c))

pub returns : goal.returns
returns c = seen c c.args.x c.args.y c.x.view_is c.y.view_is c.requires.shared
