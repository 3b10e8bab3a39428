use Rattle.std.proofs.Common.{◌≡◌, rules}
use Rattle.std.specs.Prelude.{◌*ℤ◌}
use Rattle.std.specs.Int.{w128}
use Rattle.std.specs.Int.RustNames.{FitsSigned}
use Rattle.dh_base.proofs.FractionLemmas.{small_told, large_told}
use Rattle.dh_base.proofs.frac.product.Goals as goal

pub returns-in-Some : goal.returns-in-Some
returns-in-Some c =
    let fits : FitsSigned w128 c.in-Some.product = search rules in
    let is : c.in-Some.product ≡ c.args.a *ℤ c.args.b = search rules in
    small_told (c.args.a *ℤ c.args.b) c.in-Some.product c.unsigned_abs.result fits is c.unsigned_abs.ensures.value c.if-unsigned_abs-lt-LIMIT.true

pub returns-in_default : goal.returns-in_default
returns-in_default c =
    let fits : FitsSigned w128 c.in-Some.product = search rules in
    let is : c.in-Some.product ≡ c.args.a *ℤ c.args.b = search rules in
    large_told (c.args.a *ℤ c.args.b) c.in-Some.product c.unsigned_abs.result fits is c.unsigned_abs.ensures.value c.if-unsigned_abs-lt-LIMIT.false
