-- What is kept of the events of a store for the cells of a program indicator.
use Rattle.std.specs.Prelude.{◌≡◌, ℕ, ℤ, Bool, ◌&&◌, nat_eq, List, map, Option, Some, None, slice_get}
use Rattle.std.specs.List.{filter}
use Rattle.std.specs.List.Sorted.{IsStrictlySortedBy}
use Rattle.dh_periods.specs.declared.name.PeriodName.{PeriodName}
use Rattle.dh_metadata.specs.declared.held.Records.{Records}
use Rattle.dh_metadata.specs.declared.names.AnalyticsType.TheVariants as analytics
use Rattle.dh_metadata.specs.declared.records.ProgramIndicator.{ProgramIndicator}
use Rattle.expr_eval.specs.declared.indicator.PiCode.{PiCode}
use Rattle.table_rows.specs.declared.event.EventRow.{EventRow}
use Rattle.cell_values.specs.Seen.{is_event_seen, seen_events}
use Rattle.dh_sharing.specs.Ranges.{is_within}
use Rattle.program_cells.specs.Cells.{is_on_some, is_enrolled_on, alone}
use Rattle.program_cells.specs.Code.{measure_in, IsCodeOf}
use Rattle.program_cells.specs.declared.measure.Measure.TheVariants as measure
use Rattle.program_cells.specs.Enrollments.{is_enrolled_in, first_is, enrollments}
use Rattle.program_cells.specs.Order.{whole_cmp}
use Rattle.program_cells.specs.declared.plan.ProgramPlan.{ProgramPlan}
use Rattle.program_cells.specs.declared.plan.Subjects.{Subjects}
use Rattle.program_cells.specs.declared.plan.Subjects.TheVariants as subjects

-- the event is of the program, its day lies in some of the periods, and the user sees it
unfoldable pub is_seen_during : Records → ℕ → ℕ → List PeriodName → EventRow → Bool
is_seen_during r user program periods event =
    nat_eq event.program program && (is_on_some periods event.day && is_event_seen r user event)

abbrev pub seen_during : Records → ℕ → ℕ → List PeriodName → List EventRow → List EventRow
seen_during r user program periods events = filter (is_seen_during r user program periods) events

-- what is kept of some events for the cells of a program and some periods: those that the user sees, in order
pub record AreDuring (r : Records) (user program : ℕ) (periods : List PeriodName) (all events : List EventRow) : Type 0 where
  pub are : events ≡ seen_during r user program periods all
  pub sorted : IsStrictlySortedBy whole_cmp events

-- the event tells an enrollment in the program, and the user sees it
unfoldable pub is_seen_enrolled : Records → ℕ → ℕ → EventRow → Bool
is_seen_enrolled r user program event = is_enrolled_in program event && is_event_seen r user event

abbrev pub seen_enrolled : Records → ℕ → ℕ → List EventRow → List EventRow
seen_enrolled r user program events = filter (is_seen_enrolled r user program) events

-- what is made of a program indicator once: its form, and the enrollments of its program if these are its subjects
pub record IsPlanOf (r : Records) (user : ℕ) (all : List EventRow) (indicator : ProgramIndicator) (plan : ProgramPlan) : Type 0 where
  pub code : IsCodeOf r indicator plan.code
  pub over : plan.over ≡ indicator.analytics_type
  pub enrollments : plan.over ≡ analytics.Enrollment → plan.enrollments ≡ enrollments plan.code.program (seen_events r user all)

abbrev pub IsPlanOfSome : Records → ℕ → List EventRow → Option ProgramIndicator → ProgramPlan → Type 0
IsPlanOfSome r user all None plan = ⊥
IsPlanOfSome r user all (Some indicator) plan = IsPlanOf r user all indicator plan

-- it is that of the program indicator with that number, for a user, over the events that a store stands for
pub record IsProgramPlan (r : Records) (user : ℕ) (all : List EventRow) (n : ℕ) (plan : ProgramPlan) : Type 0 where
  pub is : IsPlanOfSome r user all (slice_get r.program_indicators n) plan

-- the events as subjects, with the samples of each where the form takes numbers
abbrev pub AreEventSubjects : PiCode → List EventRow → Subjects → Type 0
AreEventSubjects code events (subjects.Events found) = found ≡ events
AreEventSubjects code events (subjects.Samples found) =
    (found.code ≡ code) × ((measure_in code.value ≡ measure.Formula) × (found.events ≡ events))
AreEventSubjects code events (subjects.Enrollments kept) = ⊥

-- the subjects of a plan in some periods, in order: they serve for the cells of all units
abbrev pub AreSubjects : Records → ℕ → List EventRow → List PeriodName → ProgramPlan → Subjects → Type 0
AreSubjects r user all periods plan (subjects.Events events) =
    (plan.over ≡ analytics.Event) × AreDuring r user plan.code.program periods all events
AreSubjects r user all periods plan (subjects.Samples found) =
    (plan.over ≡ analytics.Event)
    × ((found.code ≡ plan.code) × ((measure_in plan.code.value ≡ measure.Formula) × AreDuring r user plan.code.program periods all found.events))
AreSubjects r user all periods plan (subjects.Enrollments kept) =
    (plan.over ≡ analytics.Enrollment) × (map (λ subject. subject.now) kept.items ≡ filter (first_is (is_enrolled_on periods)) plan.enrollments)

-- the event's unit lies in the ranges of orders
abbrev pub is_placed_in : List (ℕ × ℕ) → EventRow → Bool
is_placed_in ranges event = is_within ranges event.order

-- those of the subjects whose first event lies there
abbrev pub subjects_in : List (ℕ × ℕ) → Subjects → List (List EventRow)
subjects_in ranges (subjects.Events events) = map alone (filter (is_placed_in ranges) events)
subjects_in ranges (subjects.Samples found) = map alone (filter (is_placed_in ranges) found.events)
subjects_in ranges (subjects.Enrollments kept) = filter (first_is (is_placed_in ranges)) (map (λ subject. subject.now) kept.items)

-- what events are ordered by, where those of one enrollment are to stand together
abbrev pub enrolled_key : EventRow → Option ℤ × (Option (List ℕ) × (ℤ × List ℕ))
enrolled_key event = (event.enrolled, (event.enrollment, (event.day, event.id)))
