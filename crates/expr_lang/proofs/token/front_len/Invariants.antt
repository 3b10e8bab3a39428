use Rattle.std.proofs.Common.{◌≡◌, ◌+◌, ◌-◌, ◌≤◌, length, drop}
use Rattle.expr_lang.specs.Token.{front_of}
use Rattle.expr_lang.proofs.token.front_len.Given as goal

abbrev pub invariant-loop-len : goal.invariant-loop-len
invariant-loop-len l =
    (front_of l.word l.bytes ≡ l.len + front_of (drop l.len l.word) (drop l.len l.bytes)) × (l.len ≤ length l.word) × (l.len ≤ length l.bytes)

abbrev pub decreases-loop-len : goal.decreases-loop-len
decreases-loop-len l = length l.word - l.len
