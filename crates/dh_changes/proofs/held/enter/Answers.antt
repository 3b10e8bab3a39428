use Rattle.std.proofs.Common.{arith}
use Rattle.std.specs.HashMap.Eq.{lookup_congr}
use Rattle.std.proofs.lemmas.Grind.{common_steps}
use Rattle.dh_changes.proofs.MapLemmas.{grows-entered}
use Rattle.dh_changes.proofs.held.enter.Goals as goal

pub returns-clause-grows : goal.returns-clause-grows
returns-clause-grows g c =
    grows-entered g.K.PartialEq.eq c.args.nothing c.args.map.now.entries _ c.args.key.now
    (λ q. lookup_congr g.K.PartialEq.eq g.met.K.Eq.laws.congr c.args.map.now.entries c.args.key.now q)
    (λ q. grind (arith, common_steps))
