-- Which changes have bytes.
use Rattle.std.specs.Prelude.{ℕ, ◌<◌, ◌^◌, ⊤, List, length, Option, ℤ, IsTrue, IfSome}
use Rattle.std.specs.List.{All}
use Rattle.std.specs.Int.{w64}
use Rattle.std.specs.Int.RustNames.{FitsSigned}
use Rattle.dh_periods.specs.declared.name.PeriodName.{PeriodName}
use Rattle.dh_periods.specs.Days.{is_listed}
use Rattle.dh_changes.specs.declared.keys.ValueKey.{ValueKey}
use Rattle.dh_changes.specs.declared.keys.ApprovalKey.{ApprovalKey}
use Rattle.dh_changes.specs.declared.keys.RegKey.{RegKey}
use Rattle.dh_changes.specs.declared.tracker.Event.{Event}
use Rattle.dh_changes.specs.declared.tracker.Enrollment.{Enrollment}
use Rattle.dh_changes.specs.declared.tracker.Entity.{Entity}
use Rattle.dh_changes.specs.declared.change.Write.{Write}
use Rattle.dh_changes.specs.declared.change.Write.TheVariants.{ValueSet, ValueCleared, EventWritten, EventDeleted, EnrollmentWritten, EnrollmentDeleted}
use Rattle.dh_changes.specs.declared.change.Write.TheVariants.{EntityWritten, EntityDeleted, Approve, Unapprove, Accept, Unaccept, Complete, Uncomplete}
use Rattle.dh_changes.specs.declared.change.Change.{Change}
use Rattle.change_log.specs.Words.{IsId, IsIdText}
use Rattle.dh_base.specs.Limits.{is_day}
use Rattle.change_log.specs.Bytes.{body_bytes}

abbrev pub IsDay : ℤ → Type 0
IsDay day = IsTrue (is_day day)

-- how many statuses an event has: ACTIVE, COMPLETED, VISITED, SCHEDULE, OVERDUE, SKIPPED
abbrev pub event_statuses : ℕ
event_statuses = 6

-- how many an enrollment has: ACTIVE, COMPLETED, CANCELLED
abbrev pub enrollment_statuses : ℕ
enrollment_statuses = 3

-- what a caller keeps: each length and count fits its field, each day lies in the table's years, each status is one of
-- the list
abbrev pub TextFits : List ℕ → Type 0
TextFits value = length value < 2 ^ 16

abbrev pub PairsFit : List (List ℕ × List ℕ) → Type 0
PairsFit pairs = (length pairs < 2 ^ 16) × All (λ pair. length pair.1 < 2 ^ 16) pairs

abbrev pub StateFits : ℕ → ℕ → Option ℤ → Option ℤ → Type 0
StateFits statuses status first second = (status < statuses) × (IfSome first IsDay × IfSome second IsDay)

abbrev pub WriteFits : Write → Type 0
WriteFits (ValueSet key value) = TextFits value
WriteFits (ValueCleared key) = ⊤
WriteFits (EventWritten event) = StateFits event_statuses event.status event.occurred event.scheduled × PairsFit event.values
WriteFits (EventDeleted id) = ⊤
WriteFits (EnrollmentWritten enrollment) = StateFits enrollment_statuses enrollment.status enrollment.enrolled enrollment.occurred
WriteFits (EnrollmentDeleted id) = ⊤
WriteFits (EntityWritten entity) = PairsFit entity.attributes
WriteFits (EntityDeleted id) = ⊤
WriteFits (Approve key) = ⊤
WriteFits (Unapprove key) = ⊤
WriteFits (Accept key) = ⊤
WriteFits (Unaccept key) = ⊤
WriteFits (Complete key day) = IsDay day
WriteFits (Uncomplete key) = ⊤

pub record ChangeFits (n : ℕ) (change : Change) : Type 0 where
  pub some : 0 < length change.writes
  pub count : length change.writes < 2 ^ 32
  pub writes : All WriteFits change.writes
  pub size : length (body_bytes n change) < 2 ^ 32

-- what holds of a change in full: identifiers and periods are some too, as the types of the program have it
abbrev pub IsPeriod : PeriodName → Type 0
IsPeriod p = IsTrue (is_listed p)

abbrev pub IsValueKey : ValueKey → Type 0
IsValueKey key = IsId key.element × (IsPeriod key.period × (IsId key.unit × (IsId key.combo × IsId key.attribute)))

abbrev pub IsApprovalKey : ApprovalKey → Type 0
IsApprovalKey key = IsId key.workflow × (IsPeriod key.period × (IsId key.unit × IsId key.attribute))

abbrev pub IsRegKey : RegKey → Type 0
IsRegKey key = IsId key.set × (IsPeriod key.period × (IsId key.unit × IsId key.attribute))

abbrev pub ArePairs : List (List ℕ × List ℕ) → Type 0
ArePairs pairs = (length pairs < 2 ^ 16) × All IsIdText pairs

abbrev pub IsState : ℕ → List ℕ → ℕ → Option ℤ → Option ℤ → Type 0
IsState statuses unit status first second = IsId unit × ((status < statuses) × (IfSome first IsDay × IfSome second IsDay))

abbrev pub IsEvent : Event → Type 0
IsEvent event =
    (IsId event.id × (IfSome event.enrollment IsId × (IsId event.program × IsId event.stage)))
    × (IsState event_statuses event.unit event.status event.occurred event.scheduled × ArePairs event.values)

abbrev pub IsEnrollment : Enrollment → Type 0
IsEnrollment enrollment =
    (IsId enrollment.id × (IsId enrollment.entity × IsId enrollment.program))
    × IsState enrollment_statuses enrollment.unit enrollment.status enrollment.enrolled enrollment.occurred

abbrev pub IsEntity : Entity → Type 0
IsEntity entity = (IsId entity.id × (IsId entity.kind × IsId entity.unit)) × ArePairs entity.attributes

abbrev pub IsWrite : Write → Type 0
IsWrite (ValueSet key value) = IsValueKey key × TextFits value
IsWrite (ValueCleared key) = IsValueKey key
IsWrite (EventWritten event) = IsEvent event
IsWrite (EventDeleted id) = IsId id
IsWrite (EnrollmentWritten enrollment) = IsEnrollment enrollment
IsWrite (EnrollmentDeleted id) = IsId id
IsWrite (EntityWritten entity) = IsEntity entity
IsWrite (EntityDeleted id) = IsId id
IsWrite (Approve key) = IsApprovalKey key
IsWrite (Unapprove key) = IsApprovalKey key
IsWrite (Accept key) = IsApprovalKey key
IsWrite (Unaccept key) = IsApprovalKey key
IsWrite (Complete key day) = IsRegKey key × IsDay day
IsWrite (Uncomplete key) = IsRegKey key

pub record IsChange (n : ℕ) (change : Change) : Type 0 where
  pub number : n < 2 ^ 64
  pub user : IfSome change.user IsId
  pub moment : FitsSigned w64 change.moment
  pub some : 0 < length change.writes
  pub count : length change.writes < 2 ^ 32
  pub writes : All IsWrite change.writes
  pub size : length (body_bytes n change) < 2 ^ 32
