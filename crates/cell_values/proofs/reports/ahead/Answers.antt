use Rattle.std.proofs.Common.{◌≡◌, ◌∙◌, ℤ, ◌-ℤ◌, FitsSigned, to_z, of_z, to_z-of_z, rules, ap}
use Rattle.std.specs.Int.{w32, w64}
use Rattle.cell_values.proofs.reports.ahead.Goals as goal

apart : (day last : ℤ) → FitsSigned w32 day → FitsSigned w32 last → FitsSigned w64 (day -ℤ last)
apart day last here there = search rules

wide : (day : ℤ) → FitsSigned w32 day → FitsSigned w64 day
wide day here = search rules

stays : (day one : ℤ) → FitsSigned w32 day → one ≡ to_z w32 (of_z w32 day) → to_z w64 (of_z w64 one) ≡ day
stays day one here is = ap (λ z. to_z w64 (of_z w64 z)) (is ∙ to_z-of_z here) ∙ to_z-of_z (wide day here)

pub returns : goal.returns
returns c =
    ap (λ z. to_z w64 (of_z w64 (z -ℤ to_z w64 (of_z w64 c.from-2.result)))) (stays c.args.day c.from.result c.ranges.day c.from.ensures)
    ∙ ap (λ z. to_z w64 (of_z w64 (c.args.day -ℤ z))) (stays c.args.last c.from-2.result c.ranges.last c.from-2.ensures)
    ∙ to_z-of_z (apart c.args.day c.args.last c.ranges.day c.ranges.last)
