use Rattle.std.proofs.Common.{◌≡◌, drop}
use Rattle.table_rows.specs.Store.{have_own_places}
use Rattle.table_rows.proofs.checks.have_own_places.Given as goal

abbrev pub invariant-loop-i : goal.invariant-loop-i
invariant-loop-i l = have_own_places l.rows ≡ have_own_places (drop l.i l.rows)
