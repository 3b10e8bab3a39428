use Rattle.std.proofs.Common.{◌≡◌, ◌∙◌, ◌*ℤ◌, pos, rules}
use Rattle.dh_base.specs.Fractions.{fraction_of}
use Rattle.program_cells.proofs.SumLemmas.{micros-whole}
use Rattle.program_cells.proofs.items.micros.Goals as goal

pub returns-in-Some : goal.returns-in-Some
returns-in-Some c =
    let is : c.args.micros ≡ c.in-Some.whole *ℤ pos 1000000 = search rules in
    let made : c.of.result ≡ fraction_of c.in-Some.whole 1 = search rules in
    made ∙ micros-whole c.in-Some.whole c.args.micros is
