-- How an enrollment is judged, and what is written of it.
use Rattle.std.specs.Prelude.{ℕ, Bool, false, ◌==◌, cond, length, ◌||◌, not, List, [], ◌∷◌, slice_get, Option, Some, option_and_then}
use Rattle.std.specs.Option.{option_map_or, is_none}
use Rattle.dh_base.specs.declared.codes.Code.{Code}
use Rattle.dh_base.specs.declared.codes.Code.TheVariants.{T1, T2, T3, T4, T5, T8, T9, T10, T11, T12}
use Rattle.dh_changes.specs.declared.tracker.Entity.{Entity}
use Rattle.dh_changes.specs.declared.tracker.Enrollment.{Enrollment}
use Rattle.dh_changes.specs.declared.change.Write.{Write}
use Rattle.dh_changes.specs.declared.change.Write.TheVariants as write
use Rattle.dh_metadata.specs.declared.held.Records.{Records}
use Rattle.dh_metadata.specs.declared.kind.Kind.TheVariants as kind
use Rattle.dh_metadata.specs.declared.records.Program.{Program}
use Rattle.dh_changes.specs.Facts.{Facts}
use Rattle.dh_changes.specs.Said.{same_id}
use Rattle.dh_changes.specs.declared.outcome.Who.{Who}
use Rattle.dh_changes.specs.declared.outcome.ImportStrategy.{ImportStrategy}
use Rattle.import_forms.specs.declared.pair.Pair.{Pair}
use Rattle.import_forms.specs.declared.enrollment.BundleEnrollment.{BundleEnrollment}
use Rattle.value_import.specs.Names.{object_named}
use Rattle.value_import.specs.Rules.{Condition}
use Rattle.value_import.specs.Values.{unit_id}
use Rattle.tracker_import.specs.declared.names.EnrollmentNames.{EnrollmentNames}
use Rattle.tracker_import.specs.declared.pairs.ItemKind.TheVariants.{Attribute}
use Rattle.tracker_import.specs.declared.judged.Judged.{Judged}
use Rattle.tracker_import.specs.declared.judged.Judged.TheVariants as judged
use Rattle.tracker_import.specs.Rules.{id_in}
use Rattle.tracker_import.specs.Pairs.{has_unknown, has_unfit, has_foreign, merged}
use Rattle.tracker_import.specs.Rules.{first_in, right_conditions, standing_conditions, is_no_day, day_in, enrollment_status_of, status_in}
use Rattle.tracker_import.specs.Entities.{type_id}
use Rattle.tracker_import.specs.Rules.{judged_by, put}

-- ---- what it names

unfoldable pub enrollment_names : Records → BundleEnrollment → EnrollmentNames
enrollment_names r asked = record {
  id = id_in asked.id;
  entity = id_in asked.entity;
  program = object_named r kind.Program asked.program;
  unit = object_named r kind.OrganisationUnit asked.unit;
}

-- no identifier of its own; no such program or attribute; no such unit
unfoldable pub enrollment_name_conditions : Records → EnrollmentNames → List Pair → List Condition
enrollment_name_conditions r names pairs =
    (T1, is_none names.id)
    ∷ (T2, is_none names.program || has_unknown r Attribute pairs)
    ∷ (T3, is_none names.unit)
    ∷ []

-- the tracked entity type of a program, if it has one
abbrev pub program_type_id : Records → ℕ → Option (List ℕ)
program_type_id r program =
    option_and_then (λ (found : Program). option_and_then (λ type. Some (type_id r type)) found.tracked_entity_type) (slice_get r.programs program)

-- the entity is of the program's type
unfoldable pub is_of_type : Records → Option ℕ → Entity → Bool
is_of_type r program entity = option_map_or (λ p. option_map_or (same_id entity.kind) (program_type_id r p) false) program false

-- the entity isn't there; it isn't of the program's type
unfoldable pub entity_conditions : Records → Option ℕ → Option Entity → List Condition
entity_conditions r program parent =
    (T4, is_none parent)
    ∷ (T5, not (option_map_or (is_of_type r program) parent false))
    ∷ []

-- no status of an enrollment; a date that is none; no day of enrollment
unfoldable pub enrollment_form_conditions : BundleEnrollment → List Condition
enrollment_form_conditions asked =
    (T8, is_none (status_in enrollment_status_of asked.status))
    ∷ (T9, is_no_day asked.enrolled || is_no_day asked.occurred)
    ∷ (T10, is_none asked.enrolled)
    ∷ []

-- the attributes of a program
unfoldable pub program_attributes : Records → Option ℕ → List ℕ
program_attributes r program =
    option_map_or (λ p. option_map_or (λ (found : Program). found.program_tracked_entity_attributes) (slice_get r.programs p) []) program []

-- a value doesn't fit its attribute; an attribute isn't one of the program's
unfoldable pub attribute_conditions : Records → Option ℕ → List Pair → List Condition
attribute_conditions r program pairs =
    (T11, has_unfit r Attribute pairs)
    ∷ (T12, has_foreign r Attribute (program_attributes r program) pairs)
    ∷ []

-- the first condition that holds, of an enrollment that is there or isn't, and was judged before or wasn't
unfoldable pub enrollment_conflict : Facts → Records → Who → ImportStrategy → Bool → Bool → Option Entity → EnrollmentNames → BundleEnrollment → Option Code
enrollment_conflict facts r who chosen live repeated parent names asked = first_in (
    enrollment_name_conditions r names asked.attributes
    ∷ entity_conditions r names.program parent
    ∷ right_conditions facts r who names.unit kind.Program names.program
    ∷ enrollment_form_conditions asked
    ∷ attribute_conditions r names.program asked.attributes
    ∷ standing_conditions chosen live repeated
    ∷ [])

-- ---- what is written

unfoldable pub program_id : Records → ℕ → List ℕ
program_id r program = option_map_or (λ (found : Program). found.id) (slice_get r.programs program) []

unfoldable pub enrollment_after : Records → EnrollmentNames → BundleEnrollment → Option Enrollment
enrollment_after r names asked =
    option_and_then (λ id.
    option_and_then (λ entity.
    option_and_then (λ program.
    option_and_then (λ unit.
    option_and_then (λ status.
    Some (record {
      id = id;
      entity = entity;
      program = program_id r program;
      unit = unit_id r unit;
      status = status;
      enrolled = day_in asked.enrolled;
      occurred = day_in asked.occurred;
    }))
    (status_in enrollment_status_of asked.status)) names.unit) names.program) names.entity) names.id

-- the attributes that an enrollment names are put on its entity
unfoldable pub entity_writes : Records → Option Entity → List Pair → List Write
entity_writes r parent pairs =
    cond (length pairs == 0) []
    (option_map_or (λ (entity : Entity). write.EntityWritten (record entity { attributes = merged r entity.attributes pairs }) ∷ []) parent [])

-- what an enrollment comes to, which is there or isn't, and whose entity is the parent
unfoldable pub judged_enrollment : Facts → Records → Who → ImportStrategy → Bool → Bool → Option Entity → BundleEnrollment → Judged
judged_enrollment facts r who chosen live repeated parent asked =
    judged_by (enrollment_conflict facts r who chosen live repeated parent (enrollment_names r asked) asked)
    (option_map_or (λ after. put live (write.EnrollmentWritten after ∷ entity_writes r parent asked.attributes))
    (enrollment_after r (enrollment_names r asked) asked)
    judged.Nothing)
