use Rattle.std.proofs.Common.{◌≡◌, ◌∙◌, ◌≤◌, ◌<◌, ◌^◌, ℤ, ◌-ℤ◌, pos, unsigned_abs, get_or, length, FitsSigned, to_z, of_z, to_z-of_z, rules, ap, arith}
use Rattle.std.specs.Int.{w128}
use Rattle.std.proofs.lemmas.List.{get_or_default}
use Rattle.table_sums.proofs.running.difference.Goals as goal

small : (z : ℤ) → unsigned_abs z ≤ 2 ^ 100 → FitsSigned w128 z
small z few = search rules

apart : (a b : ℤ) → unsigned_abs a ≤ 2 ^ 100 → unsigned_abs b ≤ 2 ^ 100 → FitsSigned w128 (a -ℤ b)
apart a b few less = search rules

stored : (a b : ℤ) → FitsSigned w128 a → FitsSigned w128 b → FitsSigned w128 (a -ℤ b)
    → to_z w128 (of_z w128 (to_z w128 (of_z w128 a) -ℤ to_z w128 (of_z w128 b))) ≡ a -ℤ b
stored a b first second own =
    ap (λ z. to_z w128 (of_z w128 (z -ℤ to_z w128 (of_z w128 b)))) (to_z-of_z first)
    ∙ ap (λ z. to_z w128 (of_z w128 (a -ℤ z))) (to_z-of_z second) ∙ to_z-of_z own

pub returns-clause-micros : goal.returns-clause-micros
returns-clause-micros c = λ d.
    let micros = c.args.micros.now in
    let to = c.args.to in
    let from = c.args.from in
    let a : ℤ = get_or micros to (pos 0) in
    let b : ℤ = get_or micros from (pos 0) in
    let last = c.requires.last (pos 0) in
    let first = c.requires.first (pos 0) in
    let within : from < length micros = omega (arith, c.requires.upto, c.requires.within.0) in
    stored a b (small a last) (small b first) (apart a b last first)
    ∙ ap (λ z. z -ℤ b) (get_or_default micros to (pos 0) d c.requires.within.0)
    ∙ ap (λ z. get_or micros to d -ℤ z) (get_or_default micros from (pos 0) d within)
