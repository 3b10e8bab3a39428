use Rattle.std.proofs.Common.{◌≡◌, ◌<◌, ◌+◌, ◌*◌, ◌^◌}
use Rattle.dh_base.proofs.print.divide_on.Given as goal

abbrev pub invariant-loop : goal.invariant-loop
invariant-loop l = record {
  exact : l.digits * l.den + l.left ≡ l.rest * 10 ^ l.counter;
  below : l.left < l.den;
  small : l.digits < 10 ^ l.counter;
}
