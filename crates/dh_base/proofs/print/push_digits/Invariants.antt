use Rattle.std.proofs.Common.{◌≡◌, ◌<◌, ◌≤◌, ◌++◌, ◌^◌}
use Rattle.dh_base.specs.Decimals.{decimals}
use Rattle.dh_base.proofs.print.push_digits.Given as goal

abbrev pub invariant-loop-left : goal.invariant-loop-left
invariant-loop-left l = record {
  written : l.text.items ++ decimals l.beyond l.left ≡ l.initial.text.items ++ decimals l.fn.places l.fn.rest;
  below : l.left < 10 ^ l.beyond;
  few : l.beyond ≤ 6;
}

abbrev pub decreases-loop-left : goal.decreases-loop-left
decreases-loop-left l = l.beyond
