use Rattle.std.proofs.Common.{◌≡◌, ◌∙◌, ◌*ℤ◌, pos, rules, FitsSigned, w64, to_z-of_z, sym, ap}
use Rattle.std.specs.Prelude.{option_map}
use Rattle.dh_base.specs.Fractions.{of_micros}
use Rattle.program_cells.specs.Items.{day_number}
use Rattle.program_cells.proofs.MicroLemmas.{day_valued, none_valued}
use Rattle.program_cells.proofs.micros.enrolled.Goals as goal

pub returns-in-Some : goal.returns-in-Some
returns-in-Some c =
    let fits : FitsSigned w64 c.day.result = search rules in
    let is : c.day.result ≡ c.in-Some.held *ℤ pos 1000000 = search rules in
    day_valued _ c.in-Some.held c.day.result (ap (option_map day_number) c.in-Some.is) is ∙ ap of_micros (sym (to_z-of_z fits))

pub returns-in-None : goal.returns-in-None
returns-in-None c = none_valued _ (ap (option_map day_number) c.in-None.is)
