-- The verdict on a tracker bundle: its objects one after another, each judged by what holds after the log and the writes accepted so far.
use Rattle.std.specs.Prelude.{ℕ, cond, List, [], ◌∷◌, Option, option_and_then, option_map}
use Rattle.std.specs.Option.{is_some}
use Rattle.dh_metadata.specs.declared.held.Records.{Records}
use Rattle.dh_metadata.specs.declared.kind.Kind.{Kind}
use Rattle.dh_metadata.specs.declared.kind.Kind.TheVariants as kind
use Rattle.dh_changes.specs.declared.change.Write.{Write}
use Rattle.dh_changes.specs.declared.change.Write.TheVariants as write
use Rattle.dh_changes.specs.Facts.{Facts}
use Rattle.dh_changes.specs.declared.outcome.Verdict.{Verdict}
use Rattle.dh_changes.specs.declared.outcome.Who.{Who}
use Rattle.dh_changes.specs.declared.outcome.ImportStrategy.{ImportStrategy}
use Rattle.import_forms.specs.declared.bundle.Bundle.{Bundle}
use Rattle.import_forms.specs.declared.entity.BundleEntity.{BundleEntity}
use Rattle.import_forms.specs.declared.enrollment.BundleEnrollment.{BundleEnrollment}
use Rattle.import_forms.specs.declared.event.BundleEvent.{BundleEvent}
use Rattle.value_import.specs.Values.{is_delete_all}
use Rattle.tracker_import.specs.declared.judged.Judged.{Judged}
use Rattle.tracker_import.specs.declared.places.Live.{Live}
use Rattle.tracker_import.specs.Known.{entity_now, enrollment_now, event_now}
use Rattle.tracker_import.specs.Rules.{id_in, is_repeated}
use Rattle.tracker_import.specs.Entities.{judged_entity}
use Rattle.tracker_import.specs.Enrollments.{judged_enrollment}
use Rattle.tracker_import.specs.Events.{judged_event}
use Rattle.tracker_import.specs.Deletes.{live_entity, live_enrollment, live_event, delete_conflict, judged_delete, enrollment_gone, entity_gone}
use Rattle.tracker_import.specs.Outcomes.{Sofar, none, taken, finished}

-- what an object of the bundle comes to that is to be taken away, and one that is to be written

abbrev pub deleted : Kind → (Facts → List Write → Option (List ℕ) → Option Live) → (Facts → List Write → List ℕ → List Write)
    → Facts → Records → Who → ImportStrategy → Sofar → Option (List ℕ) → Judged
deleted owners there gone facts r who chosen sofar id = judged_delete (
    delete_conflict facts r who chosen (is_repeated sofar.judged id) owners id (there facts sofar.verdict.writes id))
    (gone facts sofar.verdict.writes) id

-- the entity of an identifier, if it is there, by its unit and its owner; so for enrollments and events
abbrev pub entity_there : Facts → List Write → Option (List ℕ) → Option Live
entity_there facts accepted id = option_map live_entity (option_and_then (entity_now facts accepted) id)

abbrev pub entity_delete : Facts → Records → Who → ImportStrategy → Sofar → Option (List ℕ) → Judged
entity_delete = deleted kind.TrackedEntityType entity_there entity_gone

unfoldable pub entity_write : Facts → Records → Who → ImportStrategy → Sofar → BundleEntity → Judged
entity_write facts r who chosen sofar asked =
    judged_entity facts r who chosen (option_and_then (entity_now facts sofar.verdict.writes) (id_in asked.id))
    (is_repeated sofar.judged (id_in asked.id)) asked

abbrev pub enrollment_there : Facts → List Write → Option (List ℕ) → Option Live
enrollment_there facts accepted id = option_map (live_enrollment facts accepted) (option_and_then (enrollment_now facts accepted) id)

abbrev pub enrollment_delete : Facts → Records → Who → ImportStrategy → Sofar → Option (List ℕ) → Judged
enrollment_delete = deleted kind.Program enrollment_there enrollment_gone

unfoldable pub enrollment_write : Facts → Records → Who → ImportStrategy → Sofar → BundleEnrollment → Judged
enrollment_write facts r who chosen sofar asked =
    judged_enrollment facts r who chosen (is_some (option_and_then (enrollment_now facts sofar.verdict.writes) (id_in asked.id)))
    (is_repeated sofar.judged (id_in asked.id)) (option_and_then (entity_now facts sofar.verdict.writes) (id_in asked.entity)) asked

abbrev pub event_there : Facts → List Write → Option (List ℕ) → Option Live
event_there facts accepted id = option_map (live_event facts accepted) (option_and_then (event_now facts accepted) id)

abbrev pub event_gone : Facts → List Write → List ℕ → List Write
event_gone facts accepted id = write.EventDeleted id ∷ []

abbrev pub event_delete : Facts → Records → Who → ImportStrategy → Sofar → Option (List ℕ) → Judged
event_delete = deleted kind.Program event_there event_gone

unfoldable pub event_write : Facts → Records → Who → ImportStrategy → Sofar → BundleEvent → Judged
event_write facts r who chosen sofar asked =
    judged_event facts r who chosen (is_some (option_and_then (event_now facts sofar.verdict.writes) (id_in asked.id)))
    (is_repeated sofar.judged (id_in asked.id)) (option_and_then (enrollment_now facts sofar.verdict.writes) (id_in asked.enrollment)) asked

-- one more of a kind of objects: taken away, by its identifier, under DELETE, and else written
unfoldable pub with_one : {A : Type 0} → (A → Option (List ℕ)) → (Facts → Records → Who → ImportStrategy → Sofar → Option (List ℕ) → Judged)
    → (Facts → Records → Who → ImportStrategy → Sofar → A → Judged)
    → Facts → Records → Who → ImportStrategy → A → Sofar → Sofar
with_one own gone written facts r who chosen asked sofar = taken (own asked) (
    cond (is_delete_all chosen) (gone facts r who chosen sofar (own asked)) (written facts r who chosen sofar asked)) sofar

-- objects of one kind, one after another
abbrev pub with_each : {A : Type 0} → (A → Sofar → Sofar) → List A → Sofar → Sofar
with_each step [] sofar = sofar
with_each step (asked ∷ more) sofar = with_each step more (step asked sofar)

abbrev pub with_entities : Facts → Records → Who → ImportStrategy → List BundleEntity → Sofar → Sofar
with_entities facts r who chosen = with_each (with_one (λ (asked : BundleEntity). id_in asked.id) entity_delete entity_write facts r who chosen)

abbrev pub with_enrollments : Facts → Records → Who → ImportStrategy → List BundleEnrollment → Sofar → Sofar
with_enrollments facts r who chosen = with_each (with_one (λ (asked : BundleEnrollment). id_in asked.id) enrollment_delete enrollment_write facts r who chosen)

abbrev pub with_events : Facts → Records → Who → ImportStrategy → List BundleEvent → Sofar → Sofar
with_events facts r who chosen = with_each (with_one (λ (asked : BundleEvent). id_in asked.id) event_delete event_write facts r who chosen)

-- all objects: entities, enrollments, events; under DELETE the other way round
unfoldable pub with_all : Facts → Records → Who → Bundle → Sofar
with_all facts r who bundle =
    let chosen = bundle.params.strategy in
    cond (is_delete_all chosen)
    (with_entities facts r who chosen bundle.entities
    (with_enrollments facts r who chosen bundle.enrollments
    (with_events facts r who chosen bundle.events none)))
    (with_events facts r who chosen bundle.events
    (with_enrollments facts r who chosen bundle.enrollments
    (with_entities facts r who chosen bundle.entities none)))

-- the verdict on a bundle; its imported objects are those created
unfoldable pub verdict_of : Facts → Records → Who → Bundle → Verdict
verdict_of facts r who bundle = finished bundle.params.atomic (with_all facts r who bundle)
