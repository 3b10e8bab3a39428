-- What the log holds under each key: what the last write that names the key says.
use Rattle.std.specs.Prelude.{ℕ, ℤ, List, [], ◌∷◌, ◌++◌, Option, None, Some, map}
use Rattle.std.specs.Option.{unwrap_or, option_to_list}
use Rattle.std.specs.Map.{keys_of}
use Rattle.dh_changes.specs.declared.change.Write.{Write}
use Rattle.dh_changes.specs.declared.keys.ValueKey.{ValueKey}
use Rattle.dh_changes.specs.declared.keys.ApprovalKey.{ApprovalKey}
use Rattle.dh_changes.specs.declared.keys.RegKey.{RegKey}
use Rattle.dh_changes.specs.declared.tracker.Event.{Event}
use Rattle.dh_changes.specs.declared.tracker.Enrollment.{Enrollment}
use Rattle.dh_changes.specs.declared.tracker.Entity.{Entity}
use Rattle.dh_changes.specs.declared.said.ApprovalState.{ApprovalState}
use Rattle.dh_changes.specs.declared.said.ApprovalState.TheVariants as state
use Rattle.dh_changes.specs.declared.said.Said.{Said}
use Rattle.dh_changes.specs.declared.said.Said.TheVariants as said
use Rattle.dh_changes.specs.Hanging.{event_parent, enrollment_parent, hanging}
use Rattle.dh_changes.specs.Said.{said_by, last_said, of_value, of_event, of_enrollment, of_entity, of_approval, of_registration}
use Rattle.dh_changes.specs.Holds.{Held, value_held, event_held, enrollment_held, entity_held, approval_held, registration_held}

-- what each key holds, and what hangs on an object, ascending
pub record Facts : Type 0 where
  pub value : ValueKey → Option (List ℕ)
  pub event : List ℕ → Option Event
  pub enrollment : List ℕ → Option Enrollment
  pub entity : List ℕ → Option Entity
  pub approval : ApprovalKey → ApprovalState
  pub registration : RegKey → Option ℤ
  -- the events of an enrollment that are there
  pub events_of : List ℕ → List (List ℕ)
  -- the enrollments of an entity that are there
  pub enrollments_of : List ℕ → List (List ℕ)

-- what the last write of a list that names a key says, and nothing where none names it

abbrev pub value_in : List Write → ValueKey → Option (List ℕ)
value_in writes key = unwrap_or (last_said (of_value key) (map said_by writes)) None

abbrev pub event_in : List Write → List ℕ → Option Event
event_in writes id = unwrap_or (last_said (of_event id) (map said_by writes)) None

abbrev pub enrollment_in : List Write → List ℕ → Option Enrollment
enrollment_in writes id = unwrap_or (last_said (of_enrollment id) (map said_by writes)) None

abbrev pub entity_in : List Write → List ℕ → Option Entity
entity_in writes id = unwrap_or (last_said (of_entity id) (map said_by writes)) None

abbrev pub approval_in : List Write → ApprovalKey → ApprovalState
approval_in writes key = unwrap_or (last_said (of_approval key) (map said_by writes)) state.None

abbrev pub registration_in : List Write → RegKey → Option ℤ
registration_in writes key = unwrap_or (last_said (of_registration key) (map said_by writes)) None

abbrev pub event_named : Said → Option (List ℕ)
event_named (said.Event id event) = Some id
event_named _ = None

abbrev pub enrollment_named : Said → Option (List ℕ)
enrollment_named (said.Enrollment id enrollment) = Some id
enrollment_named _ = None

-- the identifiers that are named
abbrev pub all_named : (Said → Option (List ℕ)) → List Said → List (List ℕ)
all_named of [] = []
all_named of (s ∷ more) = option_to_list (of s) ++ all_named of more

-- what a log of these writes holds
unfoldable pub facts_in : List Write → Facts
facts_in writes = record {
  value = value_in writes;
  event = event_in writes;
  enrollment = enrollment_in writes;
  entity = entity_in writes;
  approval = approval_in writes;
  registration = registration_in writes;
  events_of = hanging (λ id. event_parent (event_in writes id)) (all_named event_named (map said_by writes));
  enrollments_of = hanging (λ id. enrollment_parent (enrollment_in writes id)) (all_named enrollment_named (map said_by writes));
}

-- what these entries hold
abbrev pub facts_of : Held → Facts
facts_of held = record {
  value = value_held held;
  event = event_held held;
  enrollment = enrollment_held held;
  entity = entity_held held;
  approval = approval_held held;
  registration = registration_held held;
  events_of = hanging (λ id. event_parent (event_held held id)) (keys_of held.events);
  enrollments_of = hanging (λ id. enrollment_parent (enrollment_held held id)) (keys_of held.enrollments);
}
