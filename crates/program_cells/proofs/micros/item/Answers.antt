use Rattle.std.proofs.Common.{◌≡◌, ◌*ℤ◌, pos, rules, FitsSigned, w64, to_z-of_z, sym, subst}
use Rattle.program_cells.specs.Sampled.{item_sample}
use Rattle.program_cells.specs.Tally.{micro_sample}
use Rattle.program_cells.proofs.MicroLemmas.{event-day, nothing-held}
use Rattle.program_cells.proofs.micros.item.Goals as goal

pub returns-in-EventDate : goal.returns-in-EventDate
returns-in-EventDate c =
    let fits : FitsSigned w64 c.day.result = search rules in
    let is : c.day.result ≡ c.args.event.now.day *ℤ pos 1000000 = search rules in
    subst (λ micros. micro_sample micros ≡ item_sample c.args.item.now c.args.event.now) (sym (to_z-of_z fits))
    (event-day c.args.item.now c.args.event.now c.day.result c.in-EventDate.is is)

pub returns-in-Nothing : goal.returns-in-Nothing
returns-in-Nothing c = nothing-held c.args.item.now c.args.event.now c.in-Nothing.is
