use Rattle.std.specs.List.{filter}
use Rattle.program_cells.specs.Code.{sample_alone}
use Rattle.program_cells.specs.Kept.{is_placed_in}
use Rattle.program_cells.proofs.TallyLemmas.{taken-stored}
use Rattle.program_cells.proofs.sampled.value_within.Goals as goal

pub returns-in-Some : goal.returns-in-Some
returns-in-Some c r indicator is formula =
    c.value_at_places.ensures r indicator (filter (is_placed_in c.args.ranges.now) c.args.events.now) is formula
    (taken-stored (sample_alone c.args.code.now) (is_placed_in c.args.ranges.now) c.args.events.now c.args.samples.now c.in-Some.places.now c.requires
    c.in-Some.ensures)

pub returns-in-None : goal.returns-in-None
returns-in-None c = c.value_of_several.ensures
