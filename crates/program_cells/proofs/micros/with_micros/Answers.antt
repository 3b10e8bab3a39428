use Rattle.std.proofs.Common.{◌≡◌, ◌∙◌, ◌+ℤ◌, Some, rules, FitsSigned, to_z-of_z, sym, ap}
use Rattle.std.specs.Int.{w128}
use Rattle.dh_base.specs.Fractions.{of_micros}
use Rattle.program_cells.proofs.MicroLemmas.{micros-added, small}
use Rattle.program_cells.proofs.micros.with_micros.Goals as goal

pub returns-then-unsigned_abs-lt-LIMIT-clause-next : goal.returns-then-unsigned_abs-lt-LIMIT-clause-next
returns-then-unsigned_abs-lt-LIMIT-clause-next c =
    let fits : FitsSigned w128 c.plus-number.result = search rules in
    let is : c.plus-number.result ≡ c.args.sum.now.number +ℤ c.args.more = search rules in
    micros-added c.args.sum.now.number c.args.more c.requires (small c.args.more c.ranges.more)
    ∙ ap (λ z. Some (of_micros z)) (sym (to_z-of_z fits ∙ is))
