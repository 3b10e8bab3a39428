use Rattle.std.proofs.Common.{◌∙◌, map, ap, sym, option_and_then}
use Rattle.dh_changes.specs.Said.{said_by, last_said, of_entity}
use Rattle.dh_changes.specs.World.{facts}
use Rattle.tracker_import.specs.Known.{entity_now, whole_entity}
use Rattle.tracker_import.proofs.SaidLemmas.{held-here, held-else}
use Rattle.tracker_import.proofs.batch.entity_now.Goals as goal

pub returns-in-Some : goal.returns-in-Some
unfolding entity_now
returns-in-Some c =
    let id = c.in_ok-id.id in
    let writes = c.args.batch.now.verdict.writes in
    c.as_ref.ensures.value
    ∙ held-here whole_entity (last_said (of_entity id) (map said_by writes)) ((facts c.args.world.now).entity id) c.in-Some.held.now
    (c.in-Some.ensures.value ∙ c.requires.said.entities id)
    ∙ ap (option_and_then (entity_now (facts c.args.world.now) writes)) (sym c.in_ok-id.was)

pub returns-in-None : goal.returns-in-None
unfolding entity_now
returns-in-None c =
    let id = c.in_ok-id.id in
    let writes = c.args.batch.now.verdict.writes in
    c.entity.ensures
    ∙ held-else whole_entity (last_said (of_entity id) (map said_by writes)) ((facts c.args.world.now).entity id)
    (c.in-None.ensures.value ∙ c.requires.said.entities id)
    ∙ ap (option_and_then (entity_now (facts c.args.world.now) writes)) (sym c.in_ok-id.was)
