use Rattle.std.proofs.Common.{◌∙◌}
use Rattle.std.specs.List.{filter}
use Rattle.program_cells.specs.Code.{sample_alone}
use Rattle.program_cells.specs.Kept.{is_placed_in}
use Rattle.program_cells.proofs.TallyLemmas.{taken-stored}
use Rattle.program_cells.proofs.sampled.value_of_several.Goals as goal

pub returns : goal.returns
returns c r indicator is formula =
    c.value_at_places.ensures r indicator (filter (is_placed_in c.args.ranges.now) c.args.events.now) is formula
    (taken-stored (sample_alone c.args.code.now) (is_placed_in c.args.ranges.now) c.args.events.now c.args.samples.now c.deref.result.now c.requires
    (c.deref.ensures.value ∙ c.in_ok-places.ensures))
