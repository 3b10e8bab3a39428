use Rattle.table_latest.proofs.LaterLemmas.{bridge-over}
use Rattle.table_latest.proofs.overlay.Overlay.of.Goals as goal

pub returns-clause-later : goal.returns-clause-later
returns-clause-later g c = λ later bridge. bridge-over _ _ later bridge
