use Rattle.program_cells.proofs.ValueLemmas.{item_sampled}
use Rattle.program_cells.proofs.sampled.only_item.Goals as goal

pub returns-in-None : goal.returns-in-None
returns-in-None c = λ event.
    item_sampled (λ item. item.now) c.args.code.now c.args.form.now c.as_slice.result.now c.item_of.result event c.requires c.in-None.is
    c.as_slice.ensures (c.item_of.ensures event)
