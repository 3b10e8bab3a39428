use Rattle.program_cells.proofs.ValueLemmas.{filter_says}
use Rattle.program_cells.proofs.evaluation.passes.Goals as goal

pub returns-in_ok-value-in-Some : goal.returns-in_ok-value-in-Some
returns-in_ok-value-in-Some c =
    filter_says _ c.in-Some.form _ c.as_slice.result.now _ c.in_ok-value-in-Some.value c.passes_by.result c.in-Some.is c.as_slice.ensures
    c.in_ok-value-in-Some.ensures c.passes_by.ensures
