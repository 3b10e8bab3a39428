use Rattle.std.proofs.Common.{◌≡◌, drop, nat_le}
use Rattle.std.specs.List.{position, position_from}
use Rattle.dh_metadata.proofs.needs.first_fit.Given as goal

abbrev pub invariant-loop-place : goal.invariant-loop-place
invariant-loop-place l = position (λ level. nat_le l.least level) l.levels ≡ position_from (λ level. nat_le l.least level) l.place (drop l.place l.levels)
