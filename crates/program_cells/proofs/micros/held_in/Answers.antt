use Rattle.std.proofs.Common.{None, cond, ap}
use Rattle.std.proofs.lemmas.Bool.{ne_eqb}
use Rattle.program_cells.specs.Items.{held_number}
use Rattle.program_cells.proofs.MicroLemmas.{none_valued}
use Rattle.program_cells.proofs.micros.held_in.Goals as goal

pub returns-else-event-stage : goal.returns-else-event-stage
returns-else-event-stage c =
    none_valued _
    (ap (λ b. cond b (held_number c.args.event.now.values c.args.element) None) (ne_eqb c.args.event.now.stage c.args.stage c.if-event-stage.false))
