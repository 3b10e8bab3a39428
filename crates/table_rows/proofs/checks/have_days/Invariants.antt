use Rattle.std.proofs.Common.{◌≡◌, take, true}
use Rattle.std.specs.List.{list_all}
use Rattle.table_rows.proofs.checks.have_days.Given as goal

abbrev pub invariant-loop-member : goal.invariant-loop-member
invariant-loop-member g l = list_all g.T.HasDays.lie (take l.member-index l.list) ≡ true
