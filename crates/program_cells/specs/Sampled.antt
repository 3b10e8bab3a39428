-- The events of some periods, and the form whose samples of them are at hand.
use Rattle.std.specs.Prelude.{ℕ, List, [], ◌∷◌, map, Option, Some, option_map}
use Rattle.std.specs.Option.{unwrap_or, option_to_list}
use Rattle.dh_base.specs.Fractions.{Fraction}
use Rattle.expr_eval.specs.declared.indicator.PiCode.{PiCode}
use Rattle.expr_eval.specs.declared.indicator.PiItem.{PiItem}
use Rattle.expr_eval.specs.Meaning.{zero_fraction}
use Rattle.program_cells.specs.declared.sampled.Samples.{Samples}
use Rattle.program_cells.specs.declared.sampled.Samples.TheVariants as stored
use Rattle.program_cells.specs.Items.{item_in}
use Rattle.program_cells.specs.Tally.{micro_sample, taken_at}
use Rattle.table_rows.specs.declared.event.EventRow.{EventRow}

pub record Sampled : Type 0 where
  pub code : PiCode
  pub events : List EventRow

-- the value of an item in an event alone, or 0
abbrev pub item_sample : PiItem → EventRow → Option (List Fraction)
item_sample item event = Some (unwrap_or (item_in (event ∷ []) item) zero_fraction ∷ [])

-- the samples that are stored
abbrev pub samples_in : Samples → List (Option (List Fraction))
samples_in (stored.Micros list) = map micro_sample list.items
samples_in (stored.Any list) = map (option_map option_to_list) list.items

-- those at these places
abbrev pub taken_in : Samples → List ℕ → List (Option (List Fraction))
taken_in (stored.Micros list) places = taken_at micro_sample list.items places
taken_in (stored.Any list) places = taken_at (option_map option_to_list) list.items places
