use Rattle.std.proofs.Common.{◌∙◌, map, ap, sym, option_and_then}
use Rattle.dh_changes.specs.Said.{said_by, last_said, of_event}
use Rattle.dh_changes.specs.World.{facts}
use Rattle.tracker_import.specs.Known.{event_now, event_place}
use Rattle.tracker_import.proofs.SaidLemmas.{held-here, held-else}
use Rattle.tracker_import.proofs.batch.event_now.Goals as goal

pub returns-in-Some : goal.returns-in-Some
unfolding event_now
returns-in-Some c =
    let id = c.in_ok-id.id in
    let writes = c.args.batch.now.verdict.writes in
    held-here event_place (last_said (of_event id) (map said_by writes)) ((facts c.args.world.now).event id) c.in-Some.held.now
    (c.in-Some.ensures.value ∙ c.requires.said.events id)
    ∙ ap (option_and_then (event_now (facts c.args.world.now) writes)) (sym c.in_ok-id.was)

pub returns-in-None : goal.returns-in-None
unfolding event_now
returns-in-None c =
    let id = c.in_ok-id.id in
    let writes = c.args.batch.now.verdict.writes in
    c.event_place.ensures ∙ ap event_place c.event.ensures
    ∙ held-else event_place (last_said (of_event id) (map said_by writes)) ((facts c.args.world.now).event id)
    (c.in-None.ensures.value ∙ c.requires.said.events id)
    ∙ ap (option_and_then (event_now (facts c.args.world.now) writes)) (sym c.in_ok-id.was)
