use Rattle.std.proofs.Common.{rules}
use Rattle.meta_forms.specs.Both.{◌⊗◌}
use Rattle.meta_forms.proofs.part.Tuple2Part.read.Goals as goal

pub returns-in_err-first : goal.returns-in_err-first
unfolding ◌⊗◌
returns-in_err-first g c = search rules

pub returns-in_err-second : goal.returns-in_err-second
unfolding ◌⊗◌
returns-in_err-second g c = search rules

pub returns : goal.returns
unfolding ◌⊗◌
returns g c = search rules
