use Rattle.std.proofs.Common.{rules, ◌<◌, ◌≤◌, length, refl}
use Rattle.program_cells.specs.Places.{order_of}
use Rattle.program_cells.proofs.PlaceLemmas.{on_ok, put-in, put-out}
use Rattle.program_cells.proofs.placed.put.Goals as goal

pub returns-then-unit-len : goal.returns-then-unit-len
returns-then-unit-len c = λ before here known.
    let within : c.args.event.now.order < length c.args.lists.now.items = search rules in
    on_ok c.add.result
    (λ is. put-in order_of before c.args.event.now c.args.lists.now.items c.add.new.lists.items c.args.event.now.order c.args.at refl here within is known)
    c.add.ensures

pub returns-else-unit-len : goal.returns-else-unit-len
returns-else-unit-len c = λ before here known.
    let past : length c.args.lists.now.items ≤ c.args.event.now.order = search rules in
    put-out order_of before c.args.event.now c.args.lists.now.items past known
