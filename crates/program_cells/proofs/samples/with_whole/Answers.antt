use Rattle.std.proofs.Common.{◌≡◌, ◌+ℤ◌, subst, rules, FitsSigned, to_z-of_z}
use Rattle.std.specs.Int.{w128}
use Rattle.std.specs.Prelude.{option_map}
use Rattle.dh_base.specs.Fractions.{some_if, fits}
use Rattle.program_cells.specs.declared.samples.WholeSum.{WholeSum}
use Rattle.program_cells.proofs.SumLemmas.{whole-if}
use Rattle.program_cells.proofs.samples.with_whole.Goals as goal

pub returns-then-den-eq1-clause-next : goal.returns-then-den-eq1-clause-next
returns-then-den-eq1-clause-next c =
    let sum = c.args.sum.now.number in
    let fit : FitsSigned w128 c.num.result = search rules in
    let total : option_map (λ (whole : WholeSum). whole.number) c.total.result ≡ some_if (fits (sum +ℤ c.num.result)) (sum +ℤ c.num.result) =
    subst (λ n. option_map (λ (whole : WholeSum). whole.number) c.total.result ≡ some_if (fits (sum +ℤ n)) (sum +ℤ n)) (to_z-of_z fit) c.total.ensures in
    whole-if (λ (whole : WholeSum). whole.number) sum c.num.result c.den.result c.args.sample c.total.result c.num.ensures.value c.den.ensures.value
    c.if-den-eq1.true c.requires c.num.ensures.fits c.den.ensures.lowest total
