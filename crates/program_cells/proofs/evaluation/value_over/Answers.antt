use Rattle.std.proofs.Common.{List, Option, map, subst}
use Rattle.dh_base.specs.Fractions.{Fraction}
use Rattle.table_rows.specs.declared.event.EventRow.{EventRow}
use Rattle.program_cells.specs.Value.{ProgramValue, Values, told}
use Rattle.program_cells.specs.Code.{code_value}
use Rattle.program_cells.proofs.ValueLemmas.{value_meant}
use Rattle.program_cells.proofs.evaluation.value_over.Goals as goal

pub returns : goal.returns
returns c r indicator is =
    let subjects : List (List EventRow) = map (λ subject. subject.now) c.args.subjects.now in
    let said : Values c.told.result (told (code_value c.args.code.now subjects)) =
    subst (λ (value : Option (Option Fraction)). Values c.told.result (told value)) c.in_ok-value.ensures c.told.ensures in
    subst (λ (meant : ProgramValue). Values c.told.result meant) (value_meant r indicator c.args.code.now subjects is) said
