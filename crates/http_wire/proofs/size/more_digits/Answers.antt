use Rattle.std.proofs.Common.{arith}
use Rattle.http_wire.proofs.SizeLemmas.{few_digits}
use Rattle.http_wire.proofs.size.more_digits.Goals as goal

pub overflow_mul-result : goal.overflow_mul-result
overflow_mul-result c = record { fits = omega (arith, few_digits c.args.count c.args.size c.args.digit c.requires.sized c.requires.short c.requires.digit) }

pub overflow_add-result-2 : goal.overflow_add-result-2
overflow_add-result-2 c = record { fits = omega (arith, few_digits c.args.count c.args.size c.args.digit c.requires.sized c.requires.short c.requires.digit) }
