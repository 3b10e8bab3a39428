use Rattle.std.proofs.Common.{◌∙◌, map, is_some, ap}
use Rattle.dh_changes.specs.Said.{said_by, last_said, of_registration}
use Rattle.dh_changes.specs.World.{facts}
use Rattle.value_import.specs.Said.{holds_registration}
use Rattle.value_import.proofs.SaidLemmas.{held-here, held-else}
use Rattle.value_import.proofs.batch.holds_registration.Goals as goal

pub returns-in-Some : goal.returns-in-Some
unfolding holds_registration
returns-in-Some c =
    held-here (last_said (of_registration c.args.key.now) (map said_by c.args.batch.now.verdict.writes)) ((facts c.args.world.now).registration c.args.key.now)
    c.in-Some.held.now
    (c.in-Some.ensures.value ∙ c.requires.registrations c.args.key.now)

pub returns-in-None : goal.returns-in-None
unfolding holds_registration
returns-in-None c =
    c.is_some.ensures ∙ ap is_some c.registration.ensures
    ∙ held-else (last_said (of_registration c.args.key.now) (map said_by c.args.batch.now.verdict.writes))
    ((facts c.args.world.now).registration c.args.key.now)
    (c.in-None.ensures.value ∙ c.requires.registrations c.args.key.now)
