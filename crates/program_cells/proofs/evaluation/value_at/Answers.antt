use Rattle.std.proofs.Common.{◌∙◌, Option, map, sym, ap, subst}
use Rattle.std.specs.Prelude.{option_and_then}
use Rattle.dh_base.specs.Fractions.{Fraction}
use Rattle.program_cells.specs.Cells.{alone}
use Rattle.program_cells.specs.Code.{gathered}
use Rattle.program_cells.specs.Value.{ProgramValue, aggregated, told, Values}
use Rattle.program_cells.proofs.ValueLemmas.{samples_meant, value_meant}
use Rattle.program_cells.proofs.evaluation.value_at.Goals as goal

pub returns-in-Some : goal.returns-in-Some
returns-in-Some c r indicator events is formula are =
    subst (λ (meant : ProgramValue). Values c.told.result meant)
    (ap told (ap (λ list. option_and_then (aggregated c.args.code.now.aggregation) (gathered list)) are
    ∙ samples_meant c.args.code.now events formula)
    ∙ value_meant r indicator c.args.code.now (map alone events) is)
    (subst (λ (value : Option (Option Fraction)). Values c.told.result (told value)) (sym c.in-Some.ensures) c.told.ensures)

pub returns-in-None : goal.returns-in-None
returns-in-None c = c.value_by_list.ensures
