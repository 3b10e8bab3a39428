use Rattle.std.proofs.Common.{◌∙◌, map, ap, sym, option_and_then}
use Rattle.dh_changes.specs.Said.{said_by, last_said, of_enrollment}
use Rattle.dh_changes.specs.World.{facts}
use Rattle.tracker_import.specs.Known.{enrollment_now, enrollment_place}
use Rattle.tracker_import.proofs.SaidLemmas.{held-here, held-else}
use Rattle.tracker_import.proofs.batch.enrollment_now.Goals as goal

pub returns-in-Some : goal.returns-in-Some
unfolding enrollment_now
returns-in-Some c =
    let id = c.in_ok-id.id in
    let writes = c.args.batch.now.verdict.writes in
    held-here enrollment_place (last_said (of_enrollment id) (map said_by writes)) ((facts c.args.world.now).enrollment id) c.in-Some.held.now
    (c.in-Some.ensures.value ∙ c.requires.said.enrollments id)
    ∙ ap (option_and_then (enrollment_now (facts c.args.world.now) writes)) (sym c.in_ok-id.was)

pub returns-in-None : goal.returns-in-None
unfolding enrollment_now
returns-in-None c =
    let id = c.in_ok-id.id in
    let writes = c.args.batch.now.verdict.writes in
    c.enrollment_place.ensures ∙ ap enrollment_place c.enrollment.ensures
    ∙ held-else enrollment_place (last_said (of_enrollment id) (map said_by writes)) ((facts c.args.world.now).enrollment id)
    (c.in-None.ensures.value ∙ c.requires.said.enrollments id)
    ∙ ap (option_and_then (enrollment_now (facts c.args.world.now) writes)) (sym c.in_ok-id.was)
