-- What there is while a bundle is judged: what the last of the writes accepted so far says, else what the log says.
use Rattle.std.specs.Prelude.{◌≡◌, ℕ, List, Option, Some, cond, map, option_map}
use Rattle.std.specs.Option.{unwrap_or, option_or}
use Rattle.std.specs.HashMap.{HashMap, get}
use Rattle.std.specs.HashSet.{HashSet, contains}
use Rattle.dh_changes.specs.declared.change.Write.{Write}
use Rattle.dh_changes.specs.declared.tracker.Event.{Event}
use Rattle.dh_changes.specs.declared.tracker.Enrollment.{Enrollment}
use Rattle.dh_changes.specs.declared.tracker.Entity.{Entity}
use Rattle.dh_changes.specs.Facts.{Facts}
use Rattle.dh_changes.specs.Said.{same_id, said_by, last_said, of_event, of_enrollment, of_entity}
use Rattle.tracker_import.specs.declared.names.EnrollmentPlace.{EnrollmentPlace}
use Rattle.tracker_import.specs.declared.places.EventPlace.{EventPlace}
use Rattle.tracker_import.specs.Rules.{is_judged}

abbrev pub enrollment_place : Option Enrollment → Option EnrollmentPlace
enrollment_place = option_map (λ found. record { entity = found.entity; program = found.program; unit = found.unit })

abbrev pub event_place : Option Event → Option EventPlace
event_place = option_map (λ found. record { enrollment = found.enrollment; program = found.program; unit = found.unit })

abbrev pub whole_entity : Option Entity → Option Entity
whole_entity found = found

-- the entity
unfoldable pub entity_now : Facts → List Write → List ℕ → Option Entity
entity_now facts accepted id = whole_entity (unwrap_or (last_said (of_entity id) (map said_by accepted)) (facts.entity id))

-- where the enrollment stands
unfoldable pub enrollment_now : Facts → List Write → List ℕ → Option EnrollmentPlace
enrollment_now facts accepted id = enrollment_place (unwrap_or (last_said (of_enrollment id) (map said_by accepted)) (facts.enrollment id))

-- where the event stands
unfoldable pub event_now : Facts → List Write → List ℕ → Option EventPlace
event_now facts accepted id = event_place (unwrap_or (last_said (of_event id) (map said_by accepted)) (facts.event id))

-- ---- maps beside the writes accepted so far

-- for each identifier that the writes name, what the last of these says
pub record AreSaid {S T U : Type 0} (noted : HashMap (List ℕ) (Option Entity) S) (enrolled : HashMap (List ℕ) (Option EnrollmentPlace) T)
    (told : HashMap (List ℕ) (Option EventPlace) U) (writes : List Write) : Type 0 where
  pub entities : (id : List ℕ) → get same_id noted id ≡ option_map whole_entity (last_said (of_entity id) (map said_by writes))
  pub enrollments : (id : List ℕ) → get same_id enrolled id ≡ option_map enrollment_place (last_said (of_enrollment id) (map said_by writes))
  pub events : (id : List ℕ) → get same_id told id ≡ option_map event_place (last_said (of_event id) (map said_by writes))

-- the new map has this at an identifier, and else what the old one had
abbrev pub Holds : {V S : Type 0} → List ℕ → V → HashMap (List ℕ) V S → HashMap (List ℕ) V S → Type 0
Holds id found old new = (q : List ℕ) → get same_id new q ≡ cond (same_id id q) (Some found) (get same_id old q)

-- the new map of entities has what a write says beside what the old one had; so for enrollments and events
abbrev pub NotesEntity : {S : Type 0} → Write → HashMap (List ℕ) (Option Entity) S → HashMap (List ℕ) (Option Entity) S → Type 0
NotesEntity write old new =
    (id : List ℕ) → get same_id new id ≡ option_or (option_map whole_entity (of_entity id (said_by write))) (get same_id old id)

abbrev pub NotesEnrollment : {S : Type 0} → Write → HashMap (List ℕ) (Option EnrollmentPlace) S → HashMap (List ℕ) (Option EnrollmentPlace) S → Type 0
NotesEnrollment write old new =
    (id : List ℕ) → get same_id new id ≡ option_or (option_map enrollment_place (of_enrollment id (said_by write))) (get same_id old id)

abbrev pub NotesEvent : {S : Type 0} → Write → HashMap (List ℕ) (Option EventPlace) S → HashMap (List ℕ) (Option EventPlace) S → Type 0
NotesEvent write old new =
    (id : List ℕ) → get same_id new id ≡ option_or (option_map event_place (of_event id (said_by write))) (get same_id old id)

-- a set has the identifiers of the objects judged so far
abbrev pub AreSeen : {S : Type 0} → HashSet (List ℕ) S → List (Option (List ℕ)) → Type 0
AreSeen seen judged = (id : List ℕ) → contains same_id seen id ≡ is_judged judged id
