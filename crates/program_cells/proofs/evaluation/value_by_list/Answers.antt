use Rattle.std.proofs.Common.{◌∙◌, map, ap}
use Rattle.std.specs.Prelude.{option_map}
use Rattle.std.specs.Option.{option_to_list}
use Rattle.program_cells.proofs.TallyLemmas.{taken_are}
use Rattle.program_cells.proofs.evaluation.value_by_list.Goals as goal

pub returns : goal.returns
returns c r indicator events is formula are =
    c.value_of_samples.ensures r indicator events is formula
    (ap (map (option_map option_to_list)) (c.deref.ensures.value ∙ c.in_ok-found.ensures)
    ∙ taken_are (option_map option_to_list) c.args.samples.now c.args.places.now ∙ are)
