use Rattle.std.proofs.Common.{nat_le}
use Rattle.std.proofs.lemmas.Iterator.Adapters.{position_from-zero}
use Rattle.dh_metadata.proofs.needs.first_fit.Goals as goal

pub loop-place-init : goal.loop-place-init
loop-place-init c = position_from-zero (λ level. nat_le c.args.least level) c.args.levels.now
