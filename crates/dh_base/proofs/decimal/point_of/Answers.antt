use Rattle.std.proofs.lemmas.Iterator.Adapters.{position_from-zero}
use Rattle.dh_base.specs.Decimals.{is_point}
use Rattle.dh_base.proofs.decimal.point_of.Goals as goal

pub loop-place-init : goal.loop-place-init
loop-place-init c = position_from-zero is_point c.args.text.now
