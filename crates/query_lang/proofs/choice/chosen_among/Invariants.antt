use Rattle.std.proofs.Common.{◌≡◌, filter}
use Rattle.query_lang.specs.Walk.{first_units}
use Rattle.query_lang.specs.Choice.{is_chosen}
use Rattle.query_lang.proofs.choice.chosen_among.Given as goal

abbrev pub invariant-loop-order : goal.invariant-loop-order
invariant-loop-order l =
    l.found.items
    ≡ filter (is_chosen l.tree l.narrowing.bounds.now l.narrowing.levels.now l.narrowing.grouped l.narrowing.members.now) (first_units l.tree l.order)
