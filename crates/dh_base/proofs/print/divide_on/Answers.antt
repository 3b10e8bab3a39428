use Rattle.std.proofs.Common.{arith}
use Rattle.dh_base.proofs.DecimalLemmas.{divided_more, power_more}
use Rattle.dh_base.proofs.print.divide_on.Goals as goal

pub loop-preserved : goal.loop-preserved
loop-preserved c =
    record {
      exact =
          divided_more c.loop.digits c.loop.left c.next_digit-digit.result.0 c.next_digit-digit.result.1 c.args.den c.args.rest c.loop.counter
          c.loop.invariant.exact c.next_digit-digit.ensures.digit;
      below = c.next_digit-digit.ensures.left;
      small = omega (arith, power_more c.loop.counter, c.loop.invariant.small, c.next_digit-digit.ensures.small);
    }
