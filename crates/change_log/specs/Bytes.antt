-- The bytes of a change.
use Rattle.std.specs.Prelude.{ℕ, List, ◌++◌}
use Rattle.std.specs.Int.{w8, w16, w32, w64}
use Rattle.dh_changes.specs.declared.change.Write.{Write}
use Rattle.dh_changes.specs.declared.change.Write.TheVariants.{ValueSet, ValueCleared, EventWritten, EventDeleted, EnrollmentWritten, EnrollmentDeleted}
use Rattle.dh_changes.specs.declared.change.Write.TheVariants.{EntityWritten, EntityDeleted, Approve, Unapprove, Accept, Unaccept, Complete, Uncomplete}
use Rattle.dh_changes.specs.declared.change.Change.{Change}
use Rattle.change_log.specs.Words.{number, signed, text, listed, optional_id}
use Rattle.change_log.specs.Fields.{value_key_bytes, approval_key_bytes, reg_key_bytes, event_bytes, enrollment_bytes, entity_bytes}

-- the number of a kind of write
abbrev pub kind_of : Write → ℕ
kind_of (ValueSet key value) = 1
kind_of (ValueCleared key) = 2
kind_of (EventWritten event) = 3
kind_of (EventDeleted id) = 4
kind_of (EnrollmentWritten enrollment) = 5
kind_of (EnrollmentDeleted id) = 6
kind_of (EntityWritten entity) = 7
kind_of (EntityDeleted id) = 8
kind_of (Approve key) = 9
kind_of (Unapprove key) = 10
kind_of (Accept key) = 11
kind_of (Unaccept key) = 12
kind_of (Complete key day) = 13
kind_of (Uncomplete key) = 14

-- the fields of a write of each kind
abbrev pub fields_of : Write → List ℕ
fields_of (ValueSet key value) = value_key_bytes key ++ text w16 value
fields_of (ValueCleared key) = value_key_bytes key
fields_of (EventWritten event) = event_bytes event
fields_of (EventDeleted id) = id
fields_of (EnrollmentWritten enrollment) = enrollment_bytes enrollment
fields_of (EnrollmentDeleted id) = id
fields_of (EntityWritten entity) = entity_bytes entity
fields_of (EntityDeleted id) = id
fields_of (Approve key) = approval_key_bytes key
fields_of (Unapprove key) = approval_key_bytes key
fields_of (Accept key) = approval_key_bytes key
fields_of (Unaccept key) = approval_key_bytes key
fields_of (Complete key day) = reg_key_bytes key ++ signed w32 day
fields_of (Uncomplete key) = reg_key_bytes key

-- a write is its kind and the fields of that kind
abbrev pub write_bytes : Write → List ℕ
write_bytes write = number w8 (kind_of write) ++ fields_of write

-- the number of the change, who made it, when, and its writes after their count
abbrev pub head_bytes : ℕ → Change → List ℕ
head_bytes n change = number w64 n ++ (optional_id change.user ++ signed w64 change.moment)

unfoldable pub body_bytes : ℕ → Change → List ℕ
body_bytes n change = head_bytes n change ++ listed w32 write_bytes change.writes

-- a change stands after the length of what follows
unfoldable pub change_bytes : ℕ → Change → List ℕ
change_bytes n change = text w32 (body_bytes n change)
