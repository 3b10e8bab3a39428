-- What a write says of the key that it names.
use Rattle.std.specs.Prelude.{ℕ, ℤ, Bool, List, [], ◌∷◌, Option, None, Some, if◌then◌else◌}
use Rattle.std.specs.Option.{option_or}
use Rattle.std.specs.Cmp.Lexicographic.{pointwise}
use Rattle.std.specs.Prelude.{nat_eq}
use Rattle.dh_changes.specs.Keys.{same_value_key, same_approval_key, same_reg_key}
use Rattle.dh_changes.specs.declared.change.Write.{Write}
use Rattle.dh_changes.specs.declared.change.Write.TheVariants as write
use Rattle.dh_changes.specs.declared.keys.ValueKey.{ValueKey}
use Rattle.dh_changes.specs.declared.keys.ApprovalKey.{ApprovalKey}
use Rattle.dh_changes.specs.declared.keys.RegKey.{RegKey}
use Rattle.dh_changes.specs.declared.tracker.Event.{Event}
use Rattle.dh_changes.specs.declared.tracker.Enrollment.{Enrollment}
use Rattle.dh_changes.specs.declared.tracker.Entity.{Entity}
use Rattle.dh_changes.specs.declared.said.ApprovalState.{ApprovalState}
use Rattle.dh_changes.specs.declared.said.ApprovalState.TheVariants as state
use Rattle.dh_changes.specs.declared.said.Said.{Said}
use Rattle.dh_changes.specs.declared.said.Said.TheVariants as said

-- two identifiers have the same bytes
abbrev pub same_id : List ℕ → List ℕ → Bool
same_id id other = pointwise nat_eq id other

-- approve and unaccept say approved, accept says accepted, unapprove says none
abbrev pub said_by : Write → Said
said_by (write.ValueSet key value) = said.Value key (Some value)
said_by (write.ValueCleared key) = said.Value key None
said_by (write.EventWritten event) = said.Event event.id (Some event)
said_by (write.EventDeleted id) = said.Event id None
said_by (write.EnrollmentWritten enrollment) = said.Enrollment enrollment.id (Some enrollment)
said_by (write.EnrollmentDeleted id) = said.Enrollment id None
said_by (write.EntityWritten entity) = said.Entity entity.id (Some entity)
said_by (write.EntityDeleted id) = said.Entity id None
said_by (write.Approve key) = said.Approval key state.Approved
said_by (write.Unapprove key) = said.Approval key state.None
said_by (write.Accept key) = said.Approval key state.Accepted
said_by (write.Unaccept key) = said.Approval key state.Approved
said_by (write.Complete key day) = said.Registration key (Some day)
said_by (write.Uncomplete key) = said.Registration key None

-- what is said of a value's key, if anything is
abbrev pub of_value : ValueKey → Said → Option (Option (List ℕ))
of_value asked (said.Value key value) = if same_value_key key asked then Some value else None
of_value asked _ = None

abbrev pub of_event : List ℕ → Said → Option (Option Event)
of_event asked (said.Event id event) = if same_id id asked then Some event else None
of_event asked _ = None

abbrev pub of_enrollment : List ℕ → Said → Option (Option Enrollment)
of_enrollment asked (said.Enrollment id enrollment) = if same_id id asked then Some enrollment else None
of_enrollment asked _ = None

abbrev pub of_entity : List ℕ → Said → Option (Option Entity)
of_entity asked (said.Entity id entity) = if same_id id asked then Some entity else None
of_entity asked _ = None

abbrev pub of_approval : ApprovalKey → Said → Option ApprovalState
of_approval asked (said.Approval key now) = if same_approval_key key asked then Some now else None
of_approval asked _ = None

abbrev pub of_registration : RegKey → Said → Option (Option ℤ)
of_registration asked (said.Registration key day) = if same_reg_key key asked then Some day else None
of_registration asked _ = None

-- the last that is said in a list: what a later item says goes before
abbrev pub last_said : {A : Type 0} → (Said → Option A) → List Said → Option A
last_said of [] = None
last_said of (s ∷ more) = option_or (last_said of more) (of s)
