use Rattle.std.proofs.Common.{◌∙◌, Option, map, subst, ap}
use Rattle.std.specs.Prelude.{option_and_then}
use Rattle.dh_base.specs.Fractions.{Fraction}
use Rattle.program_cells.specs.Cells.{alone}
use Rattle.program_cells.specs.Value.{ProgramValue, Values, aggregated, told}
use Rattle.program_cells.specs.Code.{gathered}
use Rattle.program_cells.proofs.ValueLemmas.{value_meant, samples_meant}
use Rattle.program_cells.proofs.evaluation.value_of_samples.Goals as goal

pub returns : goal.returns
returns c r indicator events is formula are =
    subst (λ (meant : ProgramValue). Values c.told.result meant)
    (ap told (ap (λ list. option_and_then (aggregated c.args.code.now.aggregation) (gathered list)) are
    ∙ samples_meant c.args.code.now events formula)
    ∙ value_meant r indicator c.args.code.now (map alone events) is)
    (subst (λ (value : Option (Option Fraction)). Values c.told.result (told value)) c.in_ok-value.ensures c.told.ensures)
