use Rattle.std.proofs.Common.{◌≡◌, drop}
use Rattle.std.specs.List.{position, position_from}
use Rattle.dh_base.specs.Decimals.{is_point}
use Rattle.dh_base.proofs.decimal.point_of.Given as goal

abbrev pub invariant-loop-place : goal.invariant-loop-place
invariant-loop-place l = position is_point l.text ≡ position_from is_point l.place (drop l.place l.text)
