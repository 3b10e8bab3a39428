use Rattle.std.proofs.Common.{◌∙◌, sym, ap}
use Rattle.std.specs.Prelude.{option_map}
use Rattle.std.specs.Option.{option_to_list}
use Rattle.program_cells.specs.Sampled.{taken_in}
use Rattle.program_cells.specs.Tally.{micro_sample, taken_at}
use Rattle.program_cells.proofs.sampled.value_at_places.Goals as goal

pub returns-in-Micros : goal.returns-in-Micros
returns-in-Micros c r indicator events is formula are =
    c.value_of_micros.ensures r indicator events is formula
    (ap (λ list. taken_at micro_sample list c.args.places.now) c.deref.ensures.value
    ∙ sym (ap (λ samples. taken_in samples c.args.places.now) c.in-Micros.is) ∙ are)

pub returns-in-Any : goal.returns-in-Any
returns-in-Any c r indicator events is formula are =
    c.value_at.ensures r indicator events is formula
    (ap (λ list. taken_at (option_map option_to_list) list c.args.places.now) c.deref-in-Any.ensures.value
    ∙ sym (ap (λ samples. taken_in samples c.args.places.now) c.in-Any.is) ∙ are)
