use Rattle.std.proofs.Common.{◌≡◌, rules, Ok}
use Rattle.dh_changes.specs.World.{facts}
use Rattle.value_import.specs.Verdicts.{verdict_of}
use Rattle.value_import.proofs.WriteLemmas.{set-writes, set-fits}
use Rattle.value_import.proofs.verdict.verdict.Goals as goal

value : (c : goal.After-finished) → c.finished.result ≡ verdict_of (facts c.args.world.now) c.args.meta.now c.args.who c.args.moment c.args.set.now
unfolding verdict_of
value c = search rules

pub returns-clause-writes : goal.returns-clause-writes
returns-clause-writes c =
    set-writes (facts c.args.world.now) c.args.meta.now c.args.who c.args.moment c.args.set.now (Ok c.finished.result) (value c)

pub returns-clause-fits : goal.returns-clause-fits
returns-clause-fits c =
    set-fits (facts c.args.world.now) c.args.meta.now c.args.who c.args.moment c.args.set.now (Ok c.finished.result) (value c)
