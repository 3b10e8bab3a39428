use Rattle.std.proofs.Common.{ℕ, sym, ap}
use Rattle.std.specs.Prelude.{option_map}
use Rattle.table_rows.specs.declared.event.ItemValue.{ItemValue}
use Rattle.program_cells.specs.Items.{number_of}
use Rattle.program_cells.proofs.MicroLemmas.{none_valued}
use Rattle.program_cells.proofs.micros.held.Goals as goal

pub returns-in-None : goal.returns-in-None
returns-in-None c = none_valued _ (ap (option_map (λ (entry : ℕ × ItemValue). number_of entry.1)) (sym c.in-None.ensures))
