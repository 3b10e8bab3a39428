use Rattle.dh_periods.proofs.RunLemmas.{named-single, named-several}
use Rattle.dh_periods.proofs.windows.relative_named.Goals as goal

pub returns-in-Some : goal.returns-in-Some
returns-in-Some c = named-single c.args.name.now c.in-Some.relative c.in-Some.ensures

pub returns-in-None : goal.returns-in-None
returns-in-None c = named-several c.args.name.now c.beside-in-None.result c.in-None.ensures c.beside-in-None.ensures
