use Rattle.std.proofs.Common.{◌≡◌, ◌∙◌, ap}
use Rattle.dh_sharing.specs.Ranges.{is_within}
use Rattle.cell_values.specs.Seen.{is_viewed}
use Rattle.program_cells.proofs.SeenLemmas.{seen_here, seen_not}
use Rattle.program_cells.proofs.seen.is_seen_during.Goals as goal

pub returns-then-is_due : goal.returns-then-is_due
returns-then-is_due c =
    let r = c.args.meta.now in
    let user = c.args.seer.now.user in
    let order = c.args.event.now.order in
    let viewed : c.is_within.result ≡ is_viewed r user order =
    c.is_within.ensures ∙ ap (λ views. is_within views order) c.views.ensures ∙ c.requires.seer.views order in
    seen_here r user c.args.program c.args.periods.now c.args.event.now c.is_due.result c.is_within.result c.requires.reads c.is_due.ensures
    c.if-is_due.true viewed

pub returns-else-is_due : goal.returns-else-is_due
returns-else-is_due c =
    c.if-is_due.false
    ∙ seen_not c.args.meta.now c.args.seer.now.user c.args.program c.args.periods.now c.args.event.now c.is_due.result c.is_due.ensures
    c.if-is_due.false
