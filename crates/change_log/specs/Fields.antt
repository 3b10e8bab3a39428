-- How the fields of a write are written.
use Rattle.std.specs.Prelude.{ℕ, List, ◌++◌, ◌-◌, ◌^◌, Option, None, Some, ℤ, negsuc}
use Rattle.std.specs.Int.{w8, w16, w32}
use Rattle.dh_periods.specs.declared.name.PeriodName.{PeriodName}
use Rattle.dh_periods.specs.Texts.{period_text}
use Rattle.dh_changes.specs.declared.keys.ValueKey.{ValueKey}
use Rattle.dh_changes.specs.declared.keys.ApprovalKey.{ApprovalKey}
use Rattle.dh_changes.specs.declared.keys.RegKey.{RegKey}
use Rattle.dh_changes.specs.declared.tracker.Event.{Event}
use Rattle.dh_changes.specs.declared.tracker.Enrollment.{Enrollment}
use Rattle.dh_changes.specs.declared.tracker.Entity.{Entity}
use Rattle.change_log.specs.Words.{number, signed, text, listed, optional_id, id_text}

-- the text of a period after its length of one byte
unfoldable pub period_bytes : PeriodName → List ℕ
period_bytes p = text w8 (period_text p)

-- what stands in the place of a day where there is none: the least number of four bytes
abbrev pub no_day : ℤ
no_day = negsuc (2 ^ 31 - 1)

-- the number of a day, or the one that stands for none
abbrev pub day_number : Option ℤ → ℤ
day_number None = no_day
day_number (Some day) = day

abbrev pub day_bytes : Option ℤ → List ℕ
day_bytes day = signed w32 (day_number day)

abbrev pub value_key_bytes : ValueKey → List ℕ
value_key_bytes key = key.element ++ (period_bytes key.period ++ (key.unit ++ (key.combo ++ key.attribute)))

abbrev pub approval_key_bytes : ApprovalKey → List ℕ
approval_key_bytes key = key.workflow ++ (period_bytes key.period ++ (key.unit ++ key.attribute))

abbrev pub reg_key_bytes : RegKey → List ℕ
reg_key_bytes key = key.set ++ (period_bytes key.period ++ (key.unit ++ key.attribute))

-- where a tracker object is, in what status, and its two days
abbrev pub state_bytes : List ℕ → ℕ → Option ℤ → Option ℤ → List ℕ
state_bytes unit status first second = unit ++ (number w8 status ++ (day_bytes first ++ day_bytes second))

abbrev pub event_bytes : Event → List ℕ
event_bytes event =
    (event.id ++ (optional_id event.enrollment ++ (event.program ++ event.stage)))
    ++ (state_bytes event.unit event.status event.occurred event.scheduled ++ listed w16 id_text event.values)

abbrev pub enrollment_bytes : Enrollment → List ℕ
enrollment_bytes enrollment =
    (enrollment.id ++ (enrollment.entity ++ enrollment.program)) ++ state_bytes enrollment.unit enrollment.status enrollment.enrolled enrollment.occurred

abbrev pub entity_bytes : Entity → List ℕ
entity_bytes entity = (entity.id ++ (entity.kind ++ entity.unit)) ++ listed w16 id_text entity.attributes
