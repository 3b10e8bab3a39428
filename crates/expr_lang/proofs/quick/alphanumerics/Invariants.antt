use Rattle.std.proofs.Common.{◌≡◌, ◌+◌, ◌-◌, ◌≤◌, length, drop}
use Rattle.expr_lang.specs.Token.{front_of}
use Rattle.expr_lang.specs.Quick.{dollars}
use Rattle.expr_lang.proofs.quick.alphanumerics.Given as goal

abbrev pub invariant-loop-count : goal.invariant-loop-count
invariant-loop-count l =
    (front_of (dollars l.most) l.bytes ≡ l.count + front_of (dollars (l.most - l.count)) (drop l.count l.bytes)) × (l.count ≤ l.most)
    × (l.count ≤ length l.bytes)

abbrev pub decreases-loop-count : goal.decreases-loop-count
decreases-loop-count l = l.most - l.count
