-- What a list of entries holds under each key.
use Rattle.std.specs.Prelude.{◌≡◌, ℕ, ℤ, List, [], Option, None}
use Rattle.std.specs.Option.{unwrap_or}
use Rattle.dh_changes.specs.Keys.{same_value_key, same_approval_key, same_reg_key}
use Rattle.dh_changes.specs.declared.keys.ValueKey.{ValueKey}
use Rattle.dh_changes.specs.declared.keys.ApprovalKey.{ApprovalKey}
use Rattle.dh_changes.specs.declared.keys.RegKey.{RegKey}
use Rattle.dh_changes.specs.declared.tracker.Event.{Event}
use Rattle.dh_changes.specs.declared.tracker.Enrollment.{Enrollment}
use Rattle.dh_changes.specs.declared.tracker.Entity.{Entity}
use Rattle.dh_changes.specs.declared.said.ApprovalState.{ApprovalState}
use Rattle.dh_changes.specs.declared.said.ApprovalState.TheVariants as state
use Rattle.dh_changes.specs.declared.said.Said.{Said}
use Rattle.dh_changes.specs.declared.index.Index.{Index}
use Rattle.dh_changes.specs.Said.{same_id, last_said, of_value, of_event, of_enrollment, of_entity, of_approval, of_registration}
use Rattle.std.specs.Map.{lookup}

-- keys with what each holds; a key that holds nothing may stand too
pub record Held : Type 0 where
  pub values : List (ValueKey × Option (List ℕ))
  pub events : List (List ℕ × Option Event)
  pub enrollments : List (List ℕ × Option Enrollment)
  pub entities : List (List ℕ × Option Entity)
  pub approvals : List (ApprovalKey × ApprovalState)
  pub registrations : List (RegKey × Option ℤ)

abbrev pub contents : Index → Held
contents index = record {
  values = index.values.entries;
  events = index.events.entries;
  enrollments = index.enrollments.entries;
  entities = index.entities.entries;
  approvals = index.approvals.entries;
  registrations = index.registrations.entries;
}

abbrev pub empty : Held
empty = record {
  values = [];
  events = [];
  enrollments = [];
  entities = [];
  approvals = [];
  registrations = [];
}

abbrev pub value_held : Held → ValueKey → Option (List ℕ)
value_held held key = unwrap_or (lookup (same_value_key key) held.values) None

abbrev pub event_held : Held → List ℕ → Option Event
event_held held id = unwrap_or (lookup (same_id id) held.events) None

abbrev pub enrollment_held : Held → List ℕ → Option Enrollment
enrollment_held held id = unwrap_or (lookup (same_id id) held.enrollments) None

abbrev pub entity_held : Held → List ℕ → Option Entity
entity_held held id = unwrap_or (lookup (same_id id) held.entities) None

abbrev pub approval_held : Held → ApprovalKey → ApprovalState
approval_held held key = unwrap_or (lookup (same_approval_key key) held.approvals) state.None

abbrev pub registration_held : Held → RegKey → Option ℤ
registration_held held key = unwrap_or (lookup (same_reg_key key) held.registrations) None

-- each key holds the same on the left, once `more` is said, as on the right, once `others` are said
pub record HoldSame (left : Held) (more : List Said) (right : Held) (others : List Said) : Type 0 where
  pub value : (key : ValueKey)
      → unwrap_or (last_said (of_value key) more) (value_held left key) ≡ unwrap_or (last_said (of_value key) others) (value_held right key)
  pub event : (id : List ℕ) → unwrap_or (last_said (of_event id) more) (event_held left id) ≡ unwrap_or (last_said (of_event id) others) (event_held right id)
  pub enrollment : (id : List ℕ)
      → unwrap_or (last_said (of_enrollment id) more) (enrollment_held left id) ≡ unwrap_or (last_said (of_enrollment id) others) (enrollment_held right id)
  pub entity : (id : List ℕ)
      → unwrap_or (last_said (of_entity id) more) (entity_held left id) ≡ unwrap_or (last_said (of_entity id) others) (entity_held right id)
  pub approval : (key : ApprovalKey)
      → unwrap_or (last_said (of_approval key) more) (approval_held left key) ≡ unwrap_or (last_said (of_approval key) others) (approval_held right key)
  pub registration : (key : RegKey)
      → unwrap_or (last_said (of_registration key) more) (registration_held left key)
      ≡ unwrap_or (last_said (of_registration key) others) (registration_held right key)

-- each key holds what the last said of it is, else what it held before
abbrev pub IsAfter : Held → List Said → Held → Type 0
IsAfter old said new = HoldSame new [] old said
