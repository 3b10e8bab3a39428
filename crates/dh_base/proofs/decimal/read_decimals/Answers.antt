use Rattle.std.proofs.Common.{◌<◌, ◌*◌, length, sym, subst}
use Rattle.dh_base.proofs.DecimalLemmas.{weighed}
use Rattle.dh_base.proofs.decimal.read_decimals.Goals as goal

pub returns-clause-bound : goal.returns-clause-bound
returns-clause-bound c =
    subst (λ n. c.in_ok-digits.digits * n < 1000000) (sym c.weight.ensures)
    (weighed c.in_ok-digits.digits (length c.args.text.now) c.in_ok-digits.ensures.bound c.in_ok-digits.ensures.length)
