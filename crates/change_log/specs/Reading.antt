-- Reading a change, field for field as it is written.
use Rattle.std.specs.Prelude.{ℕ, List, length, Bool, nat_lt, ◌==◌, ◌||◌, bytes_eq, if◌then◌else◌, Option, None, Some, option_and_then, ℤ}
use Rattle.std.specs.Ordering.{int_eq}
use Rattle.std.specs.Int.{w8, w16, w32, w64}
use Rattle.dh_periods.specs.declared.name.PeriodName.{PeriodName}
use Rattle.dh_periods.specs.Texts.{period_of, period_text}
use Rattle.dh_changes.specs.declared.keys.ValueKey.{ValueKey}
use Rattle.dh_changes.specs.declared.keys.ApprovalKey.{ApprovalKey}
use Rattle.dh_changes.specs.declared.keys.RegKey.{RegKey}
use Rattle.dh_changes.specs.declared.tracker.Event.{Event}
use Rattle.dh_changes.specs.declared.tracker.Enrollment.{Enrollment}
use Rattle.dh_changes.specs.declared.tracker.Entity.{Entity}
use Rattle.dh_changes.specs.declared.change.Write.{Write}
use Rattle.dh_changes.specs.declared.change.Write.TheVariants.{ValueSet, ValueCleared, EventWritten, EventDeleted, EnrollmentWritten, EnrollmentDeleted}
use Rattle.dh_changes.specs.declared.change.Write.TheVariants.{EntityWritten, EntityDeleted, Approve, Unapprove, Accept, Unaccept, Complete, Uncomplete}
use Rattle.dh_changes.specs.declared.change.Change.{Change}
use Rattle.change_log.specs.ReadWords.{Reads, ◌⊗◌, mapped, refined, number_at, signed_at, text_at, times_at, listed_at, id_at, optional_id_at, id_text_at}
use Rattle.change_log.specs.Fields.{no_day}
use Rattle.change_log.specs.Forms.{event_statuses, enrollment_statuses}
use Rattle.dh_base.specs.Limits.{is_day}

-- the period whose own text this is
unfoldable pub canonical_of : List ℕ → Option PeriodName
canonical_of text = option_and_then (λ p. if bytes_eq text (period_text p) then Some p else None) (period_of text)

unfoldable pub period_at : Reads PeriodName
period_at = refined canonical_of (text_at w8)

-- a day, or none
abbrev pub day_of : ℤ → Option (Option ℤ)
day_of z = if int_eq z no_day then Some None else (if is_day z then Some (Some z) else None)

unfoldable pub day_at : Reads (Option ℤ)
day_at = refined day_of (signed_at w32)

-- a day that is there
unfoldable pub given_day_at : Reads ℤ
given_day_at = refined (λ z. if is_day z then Some z else None) (signed_at w32)

abbrev pub two_ids_at : Reads (List ℕ × List ℕ)
two_ids_at = id_at ⊗ id_at

abbrev pub three_ids_at : Reads (List ℕ × (List ℕ × List ℕ))
three_ids_at = id_at ⊗ two_ids_at

unfoldable pub value_key_at : Reads ValueKey
value_key_at =
    mapped (λ p. record { element = p.0; period = p.1.0; unit = p.1.1.0; combo = p.1.1.1.0; attribute = p.1.1.1.1 }) (id_at ⊗ (period_at ⊗ three_ids_at))

unfoldable pub approval_key_at : Reads ApprovalKey
approval_key_at = mapped (λ p. record { workflow = p.0; period = p.1.0; unit = p.1.1.0; attribute = p.1.1.1 }) (id_at ⊗ (period_at ⊗ two_ids_at))

unfoldable pub reg_key_at : Reads RegKey
reg_key_at = mapped (λ p. record { set = p.0; period = p.1.0; unit = p.1.1.0; attribute = p.1.1.1 }) (id_at ⊗ (period_at ⊗ two_ids_at))

abbrev pub days_at : Reads (Option ℤ × Option ℤ)
days_at = day_at ⊗ day_at

abbrev pub state_at : Reads (List ℕ × (ℕ × (Option ℤ × Option ℤ)))
state_at = id_at ⊗ (number_at w8 ⊗ days_at)

abbrev pub event_ids_at : Reads (List ℕ × (Option (List ℕ) × (List ℕ × List ℕ)))
event_ids_at = id_at ⊗ (optional_id_at ⊗ two_ids_at)

abbrev pub event_of : (List ℕ × (Option (List ℕ) × (List ℕ × List ℕ)))
    × ((List ℕ × (ℕ × (Option ℤ × Option ℤ))) × List (List ℕ × List ℕ)) → Event
event_of p = record {
  id = p.0.0;
  enrollment = p.0.1.0;
  program = p.0.1.1.0;
  stage = p.0.1.1.1;
  unit = p.1.0.0;
  status = p.1.0.1.0;
  occurred = p.1.0.1.1.0;
  scheduled = p.1.0.1.1.1;
  values = p.1.1;
}

-- its status is one of the list
unfoldable pub event_at : Reads Event
event_at =
    refined (λ p. if nat_lt p.1.0.1.0 event_statuses then Some (event_of p) else None) (event_ids_at ⊗ (state_at ⊗ listed_at w16 id_text_at))

abbrev pub enrollment_of : (List ℕ × (List ℕ × List ℕ)) × (List ℕ × (ℕ × (Option ℤ × Option ℤ))) → Enrollment
enrollment_of p =
    record { id = p.0.0; entity = p.0.1.0; program = p.0.1.1; unit = p.1.0; status = p.1.1.0; enrolled = p.1.1.1.0; occurred = p.1.1.1.1 }

unfoldable pub enrollment_at : Reads Enrollment
enrollment_at = refined (λ p. if nat_lt p.1.1.0 enrollment_statuses then Some (enrollment_of p) else None) (three_ids_at ⊗ state_at)

unfoldable pub entity_at : Reads Entity
entity_at = mapped (λ p. record { id = p.0.0; kind = p.0.1.0; unit = p.0.1.1; attributes = p.1 }) (three_ids_at ⊗ listed_at w16 id_text_at)

unfoldable pub value_set_at : Reads Write
value_set_at = mapped (λ p. ValueSet p.0 p.1) (value_key_at ⊗ text_at w16)

unfoldable pub complete_at : Reads Write
complete_at = mapped (λ p. Complete p.0 p.1) (reg_key_at ⊗ given_day_at)

-- nothing is read
abbrev pub nothing_at : {A : Type 0} → Reads A
nothing_at bytes = None

-- the fields of a write of each kind
unfoldable pub value_write_at : ℕ → Reads Write
value_write_at kind bytes =
    if kind == 1 then value_set_at bytes
    else (if kind == 2 then mapped (λ key. ValueCleared key) value_key_at bytes else None)

unfoldable pub tracker_write_at : ℕ → Reads Write
tracker_write_at kind bytes =
    if kind == 3 then mapped (λ event. EventWritten event) event_at bytes
    else (if kind == 5 then mapped (λ enrollment. EnrollmentWritten enrollment) enrollment_at bytes
    else (if kind == 7 then mapped (λ entity. EntityWritten entity) entity_at bytes else None))

unfoldable pub deletion_at : ℕ → Reads Write
deletion_at kind bytes =
    if kind == 4 then mapped (λ id. EventDeleted id) id_at bytes
    else (if kind == 6 then mapped (λ id. EnrollmentDeleted id) id_at bytes
    else (if kind == 8 then mapped (λ id. EntityDeleted id) id_at bytes else None))

abbrev pub is_deletion : ℕ → Bool
is_deletion kind = (kind == 4) || ((kind == 6) || (kind == 8))

unfoldable pub approval_at : ℕ → Reads Write
approval_at kind bytes =
    if kind == 9 then mapped (λ key. Approve key) approval_key_at bytes
    else (if kind == 10 then mapped (λ key. Unapprove key) approval_key_at bytes
    else (if kind == 11 then mapped (λ key. Accept key) approval_key_at bytes
    else (if kind == 12 then mapped (λ key. Unaccept key) approval_key_at bytes else None)))

unfoldable pub registration_at : ℕ → Reads Write
registration_at kind bytes =
    if kind == 13 then complete_at bytes
    else (if kind == 14 then mapped (λ key. Uncomplete key) reg_key_at bytes else None)

unfoldable pub fields_at : ℕ → Reads Write
fields_at kind bytes =
    if nat_lt kind 3 then value_write_at kind bytes
    else (if is_deletion kind then deletion_at kind bytes
    else (if nat_lt kind 9 then tracker_write_at kind bytes
    else (if nat_lt kind 13 then approval_at kind bytes
    else registration_at kind bytes)))

unfoldable pub write_at : Reads Write
write_at bytes = option_and_then (λ kind. fields_at kind.0 kind.1) (number_at w8 bytes)

-- one or more writes after their count
unfoldable pub writes_at : Reads (List Write)
writes_at bytes = option_and_then (λ n. if n.0 == 0 then None else times_at n.0 write_at n.1) (number_at w32 bytes)

-- the number of a change, who made it, and when
abbrev pub head_at : Reads (ℕ × (Option (List ℕ) × ℤ))
head_at = number_at w64 ⊗ (optional_id_at ⊗ signed_at w64)

abbrev pub change_in : (ℕ × (Option (List ℕ) × ℤ)) × List Write → Change
change_in p = record { user = p.0.1.0; moment = p.0.1.1; writes = p.1 }

-- a change whose number is the one that is meant
unfoldable pub change_at : ℕ → Reads Change
change_at n = refined (λ p. if p.0.0 == n then Some (change_in p) else None) (head_at ⊗ writes_at)

-- the change of that number whose fields are all of the bytes
unfoldable pub change_of : ℕ → List ℕ → Option Change
change_of n bytes = option_and_then (λ x. if length x.1 == 0 then Some x.0 else None) (change_at n bytes)
