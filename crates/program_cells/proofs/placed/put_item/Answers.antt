use Rattle.program_cells.proofs.PlaceLemmas.{item-there, item-past}
use Rattle.program_cells.proofs.placed.put_item.Goals as goal

pub returns-in_ok-push : goal.returns-in_ok-push
returns-in_ok-push g c =
    item-there c.args.items.now c.args.place c.index-items-place.result c.args.kept.now.items c.push.new.self.items c.if-place-items.true
    c.index-items-place.is c.in_ok-push.ensures.items

pub returns-else-place-items : goal.returns-else-place-items
returns-else-place-items g c = item-past c.args.items.now c.args.place c.args.kept.now.items c.if-place-items.false
