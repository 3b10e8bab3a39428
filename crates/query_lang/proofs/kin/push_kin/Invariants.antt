use Rattle.std.proofs.Common.{◌≡◌, ◌++◌, filter}
use Rattle.query_lang.specs.Walk.{first_units}
use Rattle.query_lang.specs.Parts.{is_kin}
use Rattle.query_lang.proofs.kin.push_kin.Given as goal

abbrev pub invariant-loop-order : goal.invariant-loop-order
invariant-loop-order l = l.units.items ≡ l.fn.units.items ++ filter (is_kin l.tree l.views l.degree) (first_units l.tree l.order)
