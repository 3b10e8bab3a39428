use Rattle.std.proofs.Common.{◌≡◌, ℤ, List, length, drop}
use Rattle.std.specs.Prelude.{nat_lt}
use Rattle.std.specs.List.{list_any}
use Rattle.meta_rules.proofs.limits.are_many.Given as goal

abbrev pub invariant-loop-own : goal.invariant-loop-own
invariant-loop-own l =
    list_any (λ (own : List ℤ). nat_lt 8 (length own)) l.positions ≡ list_any (λ (own : List ℤ). nat_lt 8 (length own)) (drop l.own-index l.positions)
