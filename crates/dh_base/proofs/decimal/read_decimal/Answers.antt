use Rattle.std.proofs.Common.{sym}
use Rattle.dh_base.proofs.DecimalLemmas.{decimal_of-long}
use Rattle.dh_base.proofs.decimal.read_decimal.Goals as goal

pub returns-then-text-gt-LONGEST : goal.returns-then-text-gt-LONGEST
returns-then-text-gt-LONGEST c = sym (decimal_of-long c.args.text.now c.if-text-gt-LONGEST.true)
