-- How an event is judged, and what is written of it.
use Rattle.std.specs.Prelude.{true, ℕ, Bool, false, ◌||◌, ◌&&◌, ◌==◌, not, cond, List, [], ◌∷◌, slice_get, Option, Some, None, option_and_then, nat_lt}
use Rattle.std.specs.Option.{option_map_or, is_none}
use Rattle.dh_base.specs.declared.codes.Code.{Code}
use Rattle.dh_base.specs.declared.codes.Code.TheVariants.{T1, T2, T3, T4, T5, T8, T9, T10, T11, T12}
use Rattle.dh_changes.specs.declared.tracker.Event.{Event}
use Rattle.dh_changes.specs.declared.change.Write.TheVariants as write
use Rattle.dh_metadata.specs.declared.held.Records.{Records}
use Rattle.dh_metadata.specs.declared.kind.Kind.TheVariants as kind
use Rattle.dh_metadata.specs.declared.names.ProgramType.{ProgramType}
use Rattle.dh_metadata.specs.declared.names.ProgramType.TheVariants as program_type
use Rattle.dh_metadata.specs.declared.records.Program.{Program}
use Rattle.dh_metadata.specs.declared.records.Stage.{Stage}
use Rattle.dh_changes.specs.Facts.{Facts}
use Rattle.dh_changes.specs.Said.{same_id}
use Rattle.dh_changes.specs.declared.outcome.Who.{Who}
use Rattle.dh_changes.specs.declared.outcome.ImportStrategy.{ImportStrategy}
use Rattle.import_forms.specs.declared.pair.Pair.{Pair}
use Rattle.import_forms.specs.declared.event.BundleEvent.{BundleEvent}
use Rattle.value_import.specs.Names.{object_named}
use Rattle.value_import.specs.Rules.{Condition}
use Rattle.value_import.specs.Values.{unit_id}
use Rattle.tracker_import.specs.declared.names.EnrollmentPlace.{EnrollmentPlace}
use Rattle.tracker_import.specs.declared.names.EventNames.{EventNames}
use Rattle.tracker_import.specs.declared.pairs.ItemKind.TheVariants as item
use Rattle.tracker_import.specs.declared.judged.Judged.{Judged}
use Rattle.tracker_import.specs.declared.judged.Judged.TheVariants as judged
use Rattle.tracker_import.specs.Rules.{id_in}
use Rattle.tracker_import.specs.Pairs.{has_unknown, has_unfit, has_foreign, merged}
use Rattle.tracker_import.specs.Rules.{first_in, right_conditions, standing_conditions, is_no_day, day_in, event_status_of, status_in}
use Rattle.tracker_import.specs.Enrollments.{program_id}
use Rattle.tracker_import.specs.Rules.{judged_by, put}

-- ---- what it names

unfoldable pub event_names : Records → BundleEvent → EventNames
event_names r asked = record {
  id = id_in asked.id;
  enrollment = id_in asked.enrollment;
  program = object_named r kind.Program asked.program;
  stage = object_named r kind.ProgramStage asked.stage;
  unit = object_named r kind.OrganisationUnit asked.unit;
}

-- no identifier of its own; no such program, stage or element; no such unit
unfoldable pub event_name_conditions : Records → EventNames → List Pair → List Condition
event_name_conditions r names pairs =
    (T1, is_none names.id)
    ∷ (T2, (is_none names.program || is_none names.stage) || has_unknown r item.Element pairs)
    ∷ (T3, is_none names.unit)
    ∷ []

abbrev pub has_registration : ProgramType → Bool
has_registration program_type.WithRegistration = true
has_registration program_type.WithoutRegistration = false

-- events of the program belong to enrollments
unfoldable pub is_registered : Records → Option ℕ → Bool
is_registered r program =
    option_map_or (λ p. option_map_or (λ (found : Program). has_registration found.program_type) (slice_get r.programs p) false) program false

-- the stage is of the program
unfoldable pub is_stage_of : Records → Option ℕ → Option ℕ → Bool
is_stage_of r program stage =
    option_map_or (λ p.
    option_map_or (λ s. option_map_or (λ (found : Stage). found.program == p) (slice_get r.program_stages s) false) stage false)
    program false

-- the enrollment is in the program
unfoldable pub is_enrolled_in : Records → Option ℕ → EnrollmentPlace → Bool
is_enrolled_in r program enrollment = option_map_or (λ p. same_id enrollment.program (program_id r p)) program false

-- the enrollment isn't there; the stage or the enrollment isn't of the program
unfoldable pub enrollment_conditions : Records → EventNames → Option EnrollmentPlace → List Condition
enrollment_conditions r names parent =
    (T4, is_registered r names.program && is_none parent)
    ∷ (
      T5,
      not (is_stage_of r names.program names.stage)
          || (is_registered r names.program && not (option_map_or (is_enrolled_in r names.program) parent false)),
    )
    ∷ []

-- ACTIVE, COMPLETED and VISITED events have occurred; the others are scheduled
abbrev pub has_occurred : ℕ → Bool
has_occurred status = nat_lt status 3

-- the day that the status needs isn't there
unfoldable pub lacks_day : BundleEvent → Bool
lacks_day asked =
    option_map_or (λ status. cond (has_occurred status) (is_none asked.occurred) (is_none asked.scheduled)) (status_in event_status_of asked.status) false

-- no status of an event; a date that is none; the day that the status needs isn't there
unfoldable pub event_form_conditions : BundleEvent → List Condition
event_form_conditions asked =
    (T8, is_none (status_in event_status_of asked.status))
    ∷ (T9, is_no_day asked.occurred || is_no_day asked.scheduled)
    ∷ (T10, lacks_day asked)
    ∷ []

-- the elements of a stage
unfoldable pub stage_elements : Records → Option ℕ → List ℕ
stage_elements r stage =
    option_map_or (λ s. option_map_or (λ (found : Stage). found.program_stage_data_elements) (slice_get r.program_stages s) []) stage []

-- a value doesn't fit its element; an element isn't one of the stage's
unfoldable pub element_conditions : Records → Option ℕ → List Pair → List Condition
element_conditions r stage pairs =
    (T11, has_unfit r item.Element pairs)
    ∷ (T12, has_foreign r item.Element (stage_elements r stage) pairs)
    ∷ []

-- the first condition that holds, of an event that is there or isn't, and was judged before or wasn't
unfoldable pub event_conflict : Facts → Records → Who → ImportStrategy → Bool → Bool → Option EnrollmentPlace → EventNames → BundleEvent → Option Code
event_conflict facts r who chosen live repeated parent names asked = first_in (
    event_name_conditions r names asked.values
    ∷ enrollment_conditions r names parent
    ∷ right_conditions facts r who names.unit kind.Program names.program
    ∷ event_form_conditions asked
    ∷ element_conditions r names.stage asked.values
    ∷ standing_conditions chosen live repeated
    ∷ [])

-- ---- what is written

unfoldable pub stage_id : Records → ℕ → List ℕ
stage_id r stage = option_map_or (λ (found : Stage). found.id) (slice_get r.program_stages stage) []

-- events of a program without registration have no enrollment
abbrev pub enrollment_in : Records → EventNames → Option (List ℕ)
enrollment_in r names = cond (is_registered r names.program) names.enrollment None

unfoldable pub event_after : Records → EventNames → BundleEvent → Option Event
event_after r names asked =
    option_and_then (λ id.
    option_and_then (λ program.
    option_and_then (λ stage.
    option_and_then (λ unit.
    option_and_then (λ status.
    Some (record {
      id = id;
      enrollment = enrollment_in r names;
      program = program_id r program;
      stage = stage_id r stage;
      unit = unit_id r unit;
      status = status;
      occurred = day_in asked.occurred;
      scheduled = day_in asked.scheduled;
      values = merged r [] asked.values;
    }))
    (status_in event_status_of asked.status)) names.unit) names.stage) names.program) names.id

-- what an event comes to, which is there or isn't, and whose enrollment is the parent
unfoldable pub judged_event : Facts → Records → Who → ImportStrategy → Bool → Bool → Option EnrollmentPlace → BundleEvent → Judged
judged_event facts r who chosen live repeated parent asked =
    judged_by (event_conflict facts r who chosen live repeated parent (event_names r asked) asked)
    (option_map_or (λ after. put live (write.EventWritten after ∷ [])) (event_after r (event_names r asked) asked) judged.Nothing)
