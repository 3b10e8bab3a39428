use Rattle.std.proofs.Common.{length, arith}
use Rattle.dh_base.proofs.DecimalLemmas.{power_within}
use Rattle.dh_base.proofs.decimal.read_digits.Goals as goal

pub returns-clause-small : goal.returns-clause-small
returns-clause-small c = omega (arith, c.value_of.ensures.bound, power_within (length c.args.text.now) c.args.most c.if-text-most.false)
