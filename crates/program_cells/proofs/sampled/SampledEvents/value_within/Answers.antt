use Rattle.std.proofs.Common.{◌≡◌, map, subst}
use Rattle.std.specs.List.{filter}
use Rattle.dh_metadata.specs.declared.held.Records.{Records}
use Rattle.dh_metadata.specs.declared.records.ProgramIndicator.{ProgramIndicator}
use Rattle.program_cells.specs.Cells.{alone}
use Rattle.program_cells.specs.Code.{measure_in, IsCodeOf}
use Rattle.program_cells.specs.Kept.{is_placed_in}
use Rattle.program_cells.specs.Sampled.{Sampled}
use Rattle.program_cells.specs.Value.{Values, program_value}
use Rattle.program_cells.specs.declared.measure.Measure.TheVariants as measure
use Rattle.program_cells.proofs.sampled.SampledEvents.value_within.Goals as goal

pub value_within-requires : goal.value_within-requires
value_within-requires c = c.self.invariant

pub returns : goal.returns
returns c =
    subst (λ (own : Sampled). (r : Records) (indicator : ProgramIndicator) → IsCodeOf r indicator own.code → measure_in own.code.value ≡ measure.Formula
    → Values c.value_within.result (program_value r indicator (map alone (filter (is_placed_in c.args.ranges.now) own.events))))
    c.self.view_is c.value_within.ensures
