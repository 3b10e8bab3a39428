use Rattle.shared_engine.proofs.Growth.{looks}
use Rattle.shared_engine.proofs.laws.looks_show_the_last_swap.Goals as goal

pub returns : goal.returns
returns c = looks
