use Rattle.std.proofs.Common.{◌≡◌, ◌∙◌, ◌<◌, ◌*◌, ◌/◌, ◌^◌, sym, ap, subst, rules}
use Rattle.std.specs.Prelude.{◌+ℤ◌, unsigned_abs, IfSome}
use Rattle.std.specs.Int.{w128, cast_signed as to_z, cast_unsigned as of_z}
use Rattle.std.specs.Int.RustNames.{FitsSigned}
use Rattle.std.proofs.lemmas.Bool.{ltb-true}
use Rattle.dh_base.specs.Fractions.{Fraction, gcd, fits}
use Rattle.dh_base.proofs.FractionLemmas.{common_den-positive, sum_told, no_sum, both_known}
use Rattle.dh_base.proofs.frac.sum_over_common.Goals as goal

own_den : (c : goal.After-zip) → c.x.inside.den ≡ c.args.x.den
own_den c = ap (λ (f : Fraction). f.den) c.x.view_is

other_den : (c : goal.After-zip) → c.y.inside.den ≡ c.args.y.den
other_den c = ap (λ (f : Fraction). f.den) c.y.view_is

pub returns-clause-value : goal.returns-clause-value
returns-clause-value c =
    let left : FitsSigned w128 c.in_ok-left.left = search rules in
    let right : FitsSigned w128 c.in_ok-left.right = search rules in
    c.zip.ensures
    ∙ sum_told c.args.x c.args.y c.args.shared c.requires.shared c.in_ok-left.left c.in_ok-left.right left right c.in_ok-left.ensures
    c.x.inside.den c.y.inside.den (own_den c) (other_den c) c.sum-num.result c.sum-num.ensures c.size_product-den.result c.size_product-den.ensures

pub returns-clause-num_fits : goal.returns-clause-num_fits
returns-clause-num_fits c =
    let sum = to_z w128 (of_z w128 c.in_ok-left.left) +ℤ to_z w128 (of_z w128 c.in_ok-left.right) in
    subst (λ o. IfSome o (λ r. unsigned_abs r.0 < 2 ^ 127)) (sym c.zip.ensures)
    (both_known (λ r. unsigned_abs r.0 < 2 ^ 127) (fits sum) _ sum _ (λ p q. ltb-true (unsigned_abs sum) (2 ^ 127) p)
    c.sum-num.result c.size_product-den.result c.sum-num.ensures c.size_product-den.ensures)

pub returns-clause-den_fits : goal.returns-clause-den_fits
returns-clause-den_fits c =
    subst (λ o. IfSome o (λ r. r.1 < 2 ^ 127)) (sym c.zip.ensures)
    (both_known (λ r. r.1 < 2 ^ 127) _ _ _ _ (λ p q. ltb-true _ _ q) c.sum-num.result c.size_product-den.result
    c.sum-num.ensures c.size_product-den.ensures)

pub returns-clause-positive : goal.returns-clause-positive
returns-clause-positive c =
    let same : c.args.shared ≡ gcd c.x.inside.den c.y.inside.den =
    c.requires.shared ∙ ap (λ n. gcd n c.args.y.den) (sym (own_den c)) ∙ ap (λ n. gcd c.x.inside.den n) (sym (other_den c)) in
    subst (λ o. IfSome o (λ r. 0 < r.1)) (sym c.zip.ensures)
    (both_known (λ r. 0 < r.1) _ _ _ (c.x.inside.den / c.args.shared * c.y.inside.den)
    (λ p q. common_den-positive c.x.inside.den c.y.inside.den c.args.shared c.x.invariant.reduced.positive c.y.invariant.reduced.positive same)
    c.sum-num.result c.size_product-den.result c.sum-num.ensures c.size_product-den.ensures)

pub returns-in_err-left-clause-value : goal.returns-in_err-left-clause-value
returns-in_err-left-clause-value c = c.from_residual.ensures ∙ no_sum c.args.x c.args.y _ _ c.in_err-left.ensures
