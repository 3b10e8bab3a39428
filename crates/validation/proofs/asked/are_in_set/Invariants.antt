use Rattle.std.proofs.Common.{◌≡◌, take, true}
use Rattle.std.specs.List.{list_all}
use Rattle.validation.specs.Check.{is_in_set}
use Rattle.validation.proofs.asked.are_in_set.Given as goal

abbrev pub invariant-loop-item : goal.invariant-loop-item
invariant-loop-item l = list_all (is_in_set l.meta l.set) (take l.item-index l.expr.items) ≡ true
