-- Each write of the verdict on a bundle fits the bytes of a change.
use Rattle.std.proofs.Common.{◌≡◌, Bool, true, false, cond, List, [], ◌∷◌, ◌++◌, ℕ, length, map, Option, Some, None, sym, subst}
use Rattle.std.proofs.Common.{Result, Ok, Err, IfOk}
use Rattle.std.specs.Prelude.{◌&&◌, not, option_and_then}
use Rattle.std.specs.Option.{is_some}
use Rattle.std.specs.List.{All, AllByRecursion, flat_map}
use Rattle.std.proofs.lemmas.List.Elements.{All-from_recursion}
use Rattle.change_log.specs.Forms.{WriteFits}
use Rattle.dh_base.specs.declared.codes.Code.{Code}
use Rattle.dh_base.specs.declared.memory.Memory.{Memory}
use Rattle.dh_changes.specs.declared.change.Write.{Write}
use Rattle.dh_changes.specs.declared.change.Write.TheVariants as write
use Rattle.dh_metadata.specs.declared.held.Records.{Records}
use Rattle.dh_metadata.specs.declared.kind.Kind.TheVariants as kind
use Rattle.dh_changes.specs.Facts.{Facts}
use Rattle.dh_changes.specs.declared.outcome.ImportStrategy.{ImportStrategy}
use Rattle.dh_changes.specs.declared.outcome.Verdict.{Verdict}
use Rattle.dh_changes.specs.declared.outcome.Who.{Who}
use Rattle.import_forms.specs.declared.bundle.Bundle.{Bundle}
use Rattle.import_forms.specs.declared.entity.BundleEntity.{BundleEntity}
use Rattle.import_forms.specs.declared.enrollment.BundleEnrollment.{BundleEnrollment}
use Rattle.import_forms.specs.declared.event.BundleEvent.{BundleEvent}
use Rattle.value_import.specs.Values.{is_delete_all}
use Rattle.tracker_import.specs.declared.judged.Judged.{Judged}
use Rattle.tracker_import.specs.declared.judged.Judged.TheVariants as outcome
use Rattle.tracker_import.specs.Rules.{id_in, is_repeated}
use Rattle.tracker_import.proofs.FitLemmas.{Fits, by-judged, entity-fits, enrollment-fits, event-fits}
use Rattle.tracker_import.specs.Known.{entity_now, enrollment_now, event_now}
use Rattle.tracker_import.specs.Deletes.{delete_conflict, events_left, enrollments_left, enrollment_gone, ordered, entity_gone, judged_delete}
use Rattle.tracker_import.specs.Outcomes.{Sofar, none, counted, taken, is_whole, unwritten, finished}
use Rattle.tracker_import.specs.Verdicts.{entity_delete, entity_write, enrollment_delete, enrollment_write, event_delete, event_write, with_one, with_each}
use Rattle.tracker_import.specs.Verdicts.{entity_there, enrollment_there, event_there, event_gone}
use Rattle.tracker_import.specs.Verdicts.{with_entities, with_enrollments, with_events, with_all, verdict_of}

-- ---- what is taken away

each-fits : (f : List ℕ → Write) → ((id : List ℕ) → WriteFits (f id)) → (ids : List (List ℕ)) → AllByRecursion WriteFits (map f ids)
each-fits f fits [] = tt
each-fits f fits (id ∷ ids) = (fits id, each-fits f fits ids)

both-fit : (xs ys : List Write) → AllByRecursion WriteFits xs → AllByRecursion WriteFits ys → AllByRecursion WriteFits (xs ++ ys)
both-fit [] ys first second = second
both-fit (x ∷ xs) ys first second = (first.0, both-fit xs ys first.1 second)

enrollment_gone-fits : (facts : Facts) (accepted : List Write) (id : List ℕ) → AllByRecursion WriteFits (enrollment_gone facts accepted id)
unfolding enrollment_gone
enrollment_gone-fits facts accepted id =
    both-fit (map write.EventDeleted (events_left facts accepted id)) (write.EnrollmentDeleted id ∷ [])
    (each-fits write.EventDeleted (λ own. tt) (events_left facts accepted id)) (tt, tt)

entity_gone-fits : (facts : Facts) (accepted : List Write) (id : List ℕ) → AllByRecursion WriteFits (entity_gone facts accepted id)
unfolding entity_gone
entity_gone-fits facts accepted id =
    let events = ordered (flat_map (events_left facts accepted) (enrollments_left facts accepted id)) in
    let enrollments = enrollments_left facts accepted id in
    both-fit (map write.EventDeleted events ++ map write.EnrollmentDeleted enrollments) (write.EntityDeleted id ∷ [])
    (both-fit (map write.EventDeleted events) (map write.EnrollmentDeleted enrollments) (each-fits write.EventDeleted (λ own. tt) events)
    (each-fits write.EnrollmentDeleted (λ own. tt) enrollments)) (tt, tt)

delete-fits : (conflict : Option Code) (gone : List ℕ → List Write) (id : Option (List ℕ)) → ((own : List ℕ) → AllByRecursion WriteFits (gone own))
    → Fits (judged_delete conflict gone id)
delete-fits conflict gone None fits = by-judged conflict outcome.Nothing (λ clear. tt)
delete-fits conflict gone (Some own) fits = by-judged conflict (outcome.Deleted (gone own)) (λ clear. fits own)

-- ---- one object

either : (b : Bool) (x y : Judged) → Fits x → Fits y → Fits (cond b x y)
either true x y first second = first
either false x y first second = second

counted-fits : (index : ℕ) (id : Option (List ℕ)) (what : Judged) (v : Verdict) → AllByRecursion WriteFits v.writes → Fits what
    → AllByRecursion WriteFits (counted index id what v).writes
counted-fits index id (outcome.Refused code) v all fits = all
counted-fits index id outcome.Nothing v all fits = all
counted-fits index id (outcome.Created writes) v all fits = both-fit v.writes writes all fits
counted-fits index id (outcome.Updated writes) v all fits = both-fit v.writes writes all fits
counted-fits index id (outcome.Deleted writes) v all fits = both-fit v.writes writes all fits

-- the writes so far fit
abbrev AreFit : Sofar → Type 0
AreFit sofar = AllByRecursion WriteFits sofar.verdict.writes

taken-fits : (id : Option (List ℕ)) (what : Judged) (sofar : Sofar) → AreFit sofar → Fits what → AreFit (taken id what sofar)
unfolding taken
taken-fits id what sofar all fits = counted-fits (length sofar.judged) id what sofar.verdict all fits

module _ (facts : Facts) (r : Records) (who : Who) (chosen : ImportStrategy) where
  entity_delete-fits : (sofar : Sofar) (id : Option (List ℕ)) → Fits (entity_delete facts r who chosen sofar id)
  entity_delete-fits sofar id =
      delete-fits (delete_conflict facts r who chosen (is_repeated sofar.judged id) kind.TrackedEntityType id (entity_there facts sofar.verdict.writes id))
      (entity_gone facts sofar.verdict.writes) id (entity_gone-fits facts sofar.verdict.writes)

  entity_write-fits : (sofar : Sofar) (asked : BundleEntity) → Fits (entity_write facts r who chosen sofar asked)
  unfolding entity_write
  entity_write-fits sofar asked =
      entity-fits facts r who chosen (option_and_then (entity_now facts sofar.verdict.writes) (id_in asked.id))
      (is_repeated sofar.judged (id_in asked.id)) asked

  enrollment_delete-fits : (sofar : Sofar) (id : Option (List ℕ)) → Fits (enrollment_delete facts r who chosen sofar id)
  enrollment_delete-fits sofar id =
      delete-fits (delete_conflict facts r who chosen (is_repeated sofar.judged id) kind.Program id (enrollment_there facts sofar.verdict.writes id))
      (enrollment_gone facts sofar.verdict.writes) id (enrollment_gone-fits facts sofar.verdict.writes)

  enrollment_write-fits : (sofar : Sofar) (asked : BundleEnrollment) → Fits (enrollment_write facts r who chosen sofar asked)
  unfolding enrollment_write
  enrollment_write-fits sofar asked =
      enrollment-fits facts r who chosen (is_some (option_and_then (enrollment_now facts sofar.verdict.writes) (id_in asked.id)))
      (is_repeated sofar.judged (id_in asked.id)) (option_and_then (entity_now facts sofar.verdict.writes) (id_in asked.entity)) asked

  event_delete-fits : (sofar : Sofar) (id : Option (List ℕ)) → Fits (event_delete facts r who chosen sofar id)
  event_delete-fits sofar id =
      delete-fits (delete_conflict facts r who chosen (is_repeated sofar.judged id) kind.Program id (event_there facts sofar.verdict.writes id))
      (event_gone facts sofar.verdict.writes) id (λ own. (tt, tt))

  event_write-fits : (sofar : Sofar) (asked : BundleEvent) → Fits (event_write facts r who chosen sofar asked)
  unfolding event_write
  event_write-fits sofar asked =
      event-fits facts r who chosen (is_some (option_and_then (event_now facts sofar.verdict.writes) (id_in asked.id)))
      (is_repeated sofar.judged (id_in asked.id)) (option_and_then (enrollment_now facts sofar.verdict.writes) (id_in asked.enrollment)) asked

  -- ---- all objects

  with_one-fits : {A : Type 0} (own : A → Option (List ℕ)) (gone : Facts → Records → Who → ImportStrategy → Sofar → Option (List ℕ) → Judged)
      (written : Facts → Records → Who → ImportStrategy → Sofar → A → Judged)
      → ((sofar : Sofar) (id : Option (List ℕ)) → Fits (gone facts r who chosen sofar id))
      → ((sofar : Sofar) (asked : A) → Fits (written facts r who chosen sofar asked))
      → (asked : A) (sofar : Sofar) → AreFit sofar → AreFit (with_one own gone written facts r who chosen asked sofar)
  unfolding with_one
  with_one-fits own gone written gone-fits written-fits asked sofar all =
      let out = gone facts r who chosen sofar (own asked) in
      let in_ = written facts r who chosen sofar asked in
      taken-fits (own asked) (cond (is_delete_all chosen) out in_) sofar all
      (either (is_delete_all chosen) out in_ (gone-fits sofar (own asked)) (written-fits sofar asked))

  with_each-fit : {A : Type 0} (step : A → Sofar → Sofar) → ((asked : A) (sofar : Sofar) → AreFit sofar → AreFit (step asked sofar))
      → (list : List A) (sofar : Sofar) → AreFit sofar → AreFit (with_each step list sofar)
  with_each-fit step fits [] sofar all = all
  with_each-fit step fits (asked ∷ more) sofar all = with_each-fit step fits more (step asked sofar) (fits asked sofar all)

  with_entities-fit : (list : List BundleEntity) (sofar : Sofar) → AreFit sofar → AreFit (with_entities facts r who chosen list sofar)
  with_entities-fit =
      with_each-fit (with_one (λ (asked : BundleEntity). id_in asked.id) entity_delete entity_write facts r who chosen)
      (with_one-fits (λ (asked : BundleEntity). id_in asked.id) entity_delete entity_write entity_delete-fits entity_write-fits)

  with_enrollments-fit : (list : List BundleEnrollment) (sofar : Sofar) → AreFit sofar → AreFit (with_enrollments facts r who chosen list sofar)
  with_enrollments-fit =
      with_each-fit (with_one (λ (asked : BundleEnrollment). id_in asked.id) enrollment_delete enrollment_write facts r who chosen)
      (with_one-fits (λ (asked : BundleEnrollment). id_in asked.id) enrollment_delete enrollment_write enrollment_delete-fits enrollment_write-fits)

  with_events-fit : (list : List BundleEvent) (sofar : Sofar) → AreFit sofar → AreFit (with_events facts r who chosen list sofar)
  with_events-fit =
      with_each-fit (with_one (λ (asked : BundleEvent). id_in asked.id) event_delete event_write facts r who chosen)
      (with_one-fits (λ (asked : BundleEvent). id_in asked.id) event_delete event_write event_delete-fits event_write-fits)

-- one way or the other
or-other : (b : Bool) (x y : Sofar) → AreFit x → AreFit y → AreFit (cond b x y)
or-other true x y first second = first
or-other false x y first second = second

with_all-fits : (facts : Facts) (r : Records) (who : Who) (bundle : Bundle) → AreFit (with_all facts r who bundle)
unfolding with_all
with_all-fits facts r who bundle =
    let chosen = bundle.params.strategy in
    let events = with_events facts r who chosen bundle.events none in
    let later = with_enrollments facts r who chosen bundle.enrollments events in
    let entities = with_entities facts r who chosen bundle.entities none in
    let earlier = with_enrollments facts r who chosen bundle.enrollments entities in
    or-other (is_delete_all chosen) (with_entities facts r who chosen bundle.entities later) (with_events facts r who chosen bundle.events earlier)
    (with_entities-fit facts r who chosen bundle.entities later
    (with_enrollments-fit facts r who chosen bundle.enrollments events (with_events-fit facts r who chosen bundle.events none tt)))
    (with_events-fit facts r who chosen bundle.events earlier
    (with_enrollments-fit facts r who chosen bundle.enrollments entities (with_entities-fit facts r who chosen bundle.entities none tt)))

finished-fits : (atomic : Bool) (sofar : Sofar) → AreFit sofar → AllByRecursion WriteFits (finished atomic sofar).writes
unfolding finished
finished-fits atomic sofar all =
    elim (atomic && not (is_whole sofar.verdict))
    as (λ b. AllByRecursion WriteFits (cond b (unwritten (length sofar.judged) sofar.verdict) sofar.verdict).writes)
    [ true ↦ tt | false ↦ all ]

verdict_of-fits : (facts : Facts) (r : Records) (who : Who) (bundle : Bundle) → AllByRecursion WriteFits (verdict_of facts r who bundle).writes
unfolding verdict_of
verdict_of-fits facts r who bundle = finished-fits bundle.params.atomic (with_all facts r who bundle) (with_all-fits facts r who bundle)

-- so do those of a verdict that is told
pub told-fits : (facts : Facts) (r : Records) (who : Who) (bundle : Bundle) (result : Result Verdict Memory)
    → IfOk result (λ v. v ≡ verdict_of facts r who bundle) → IfOk result (λ v. All WriteFits v.writes)
told-fits facts r who bundle (Ok v) is =
    subst (λ (w : Verdict). All WriteFits w.writes) (sym is) (All-from_recursion WriteFits _ (verdict_of-fits facts r who bundle))
told-fits facts r who bundle (Err memory) is = tt
