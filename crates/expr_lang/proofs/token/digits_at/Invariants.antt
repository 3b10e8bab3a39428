use Rattle.std.proofs.Common.{◌≡◌, ◌+◌, ◌-◌, ◌≤◌, ◌<◌, ◌^◌, length, drop, take}
use Rattle.std.specs.Str.Parse.{digits_value}
use Rattle.expr_lang.specs.Token.{digit_count}
use Rattle.expr_lang.proofs.token.digits_at.Given as goal

abbrev pub invariant-loop-count : goal.invariant-loop-count
invariant-loop-count l =
    (digit_count l.most l.bytes ≡ l.count + digit_count (l.most - l.count) (drop l.count l.bytes)) × (l.value ≡ digits_value 10 (take l.count l.bytes))
    × (l.value < 10 ^ l.count) × (l.count ≤ l.most) × (l.count ≤ length l.bytes)

abbrev pub decreases-loop-count : goal.decreases-loop-count
decreases-loop-count l = l.most - l.count
