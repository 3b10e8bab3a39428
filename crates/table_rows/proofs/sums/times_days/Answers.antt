use Rattle.std.proofs.Common.{◌≡◌, ◌∙◌, ℕ, ◌<◌, ◌≤◌, ◌*◌, ◌^◌, ℤ, pos, negsuc, ◌*ℤ◌, unsigned_abs, FitsSigned, w64, to_z, of_z, to_z-of_z, sym, ap, subst}
use Rattle.std.proofs.Common.{arith}
use Rattle.std.specs.Int.{w128}
use Rattle.std.proofs.Math.Nat.{mul-le-mul}
use Rattle.std.proofs.lemmas.Int.{unsigned_abs-mul, fits_signed_from_abs}
use Rattle.table_rows.proofs.sums.times_days.Goals as goal

-- a number of 64 bits is small
micros-small : (z : ℤ) → FitsSigned w64 z → unsigned_abs z ≤ 2 ^ 63
micros-small (pos n) fits = let less : n < 2 ^ 63 = fits.sfits in omega (arith, less)
micros-small (negsuc n) fits = let less : n < 2 ^ 63 = fits.sfits in omega (arith, less)

times-small : (a b micros : ℤ) (days : ℕ) → FitsSigned w64 micros → days < 2 ^ 32 → a ≡ micros → b ≡ pos days → unsigned_abs (a *ℤ b) ≤ 2 ^ 95
times-small a b micros days fits few is_micros is_days =
    let product : unsigned_abs (a *ℤ b) ≡ unsigned_abs micros * days = ap (λ z. unsigned_abs (z *ℤ b)) is_micros
    ∙ ap (λ z. unsigned_abs (micros *ℤ z)) is_days ∙ unsigned_abs-mul micros (pos days) in
    let short : days ≤ 2 ^ 32 = omega (arith, few) in
    let size : unsigned_abs micros * days ≤ 2 ^ 63 * 2 ^ 32 = mul-le-mul (micros-small micros fits) short in
    omega (arith, product, size)

times-fits : (z : ℤ) → unsigned_abs z ≤ 2 ^ 95 → FitsSigned w128 z
times-fits z small = let less : unsigned_abs z < 2 ^ 127 = omega (arith, small) in fits_signed_from_abs w128 z less

read-micros : (z micros : ℤ) → FitsSigned w128 z → FitsSigned w64 micros → z ≡ to_z w64 (of_z w64 micros) → to_z w128 (of_z w128 z) ≡ micros
read-micros z micros wide fits is = to_z-of_z wide ∙ is ∙ to_z-of_z fits

read-days : (z : ℤ) (days : ℕ) → FitsSigned w128 z → z ≡ pos days → to_z w128 (of_z w128 z) ≡ pos days
read-days z days wide is = to_z-of_z wide ∙ is

pub overflow_mul-result : goal.overflow_mul-result
overflow_mul-result c =
    let a = to_z w128 (of_z w128 c.from.result) in
    let b = to_z w128 (of_z w128 c.from-2.result) in
    let is_micros : a ≡ c.args.micros = read-micros c.from.result c.args.micros (record { sfits = c.from.type_inv }) c.ranges.micros c.from.ensures in
    let is_days : b ≡ pos c.args.days = read-days c.from-2.result c.args.days (record { sfits = c.from-2.type_inv }) c.from-2.ensures in
    times-fits (a *ℤ b) (times-small a b c.args.micros c.args.days c.ranges.micros c.ranges.days.fits is_micros is_days)

pub returns-clause-value : goal.returns-clause-value
returns-clause-value c =
    let a = to_z w128 (of_z w128 c.from.result) in
    let b = to_z w128 (of_z w128 c.from-2.result) in
    let is_micros : a ≡ c.args.micros = read-micros c.from.result c.args.micros (record { sfits = c.from.type_inv }) c.ranges.micros c.from.ensures in
    let is_days : b ≡ pos c.args.days = read-days c.from-2.result c.args.days (record { sfits = c.from-2.type_inv }) c.from-2.ensures in
    to_z-of_z (times-fits (a *ℤ b) (times-small a b c.args.micros c.args.days c.ranges.micros c.ranges.days.fits is_micros is_days))
    ∙ ap (λ z. z *ℤ b) is_micros ∙ ap (λ z. c.args.micros *ℤ z) is_days

pub returns-clause-size : goal.returns-clause-size
returns-clause-size c =
    let a = to_z w128 (of_z w128 c.from.result) in
    let b = to_z w128 (of_z w128 c.from-2.result) in
    let is_micros : a ≡ c.args.micros = read-micros c.from.result c.args.micros (record { sfits = c.from.type_inv }) c.ranges.micros c.from.ensures in
    let is_days : b ≡ pos c.args.days = read-days c.from-2.result c.args.days (record { sfits = c.from-2.type_inv }) c.from-2.ensures in
    let small = times-small a b c.args.micros c.args.days c.ranges.micros c.ranges.days.fits is_micros is_days in
    subst (λ z. unsigned_abs z ≤ 2 ^ 95) (sym (to_z-of_z (times-fits (a *ℤ b) small))) small
