use Rattle.program_cells.proofs.ValueLemmas.{item_valued}
use Rattle.program_cells.proofs.sampled.item_of.Goals as goal

pub returns : goal.returns
returns c = λ event.
    item_valued (λ item. item.now) c.args.form.now c.args.items.now c.in_ok-place.place c.item_at.result event c.in_ok-place.ensures c.item_at.ensures
