-- Enrollments, with the events that stand in them.
use Rattle.std.specs.Prelude.{ℕ, List, map, Option, codes, Ok}
use Rattle.std.specs.Option.{option_or}
use Rattle.serde_json.specs.Data.{Data}
use Rattle.json_read.specs.Forms.{Formed, and_then, object_of}
use Rattle.import_forms.specs.Texts.{text_in}
use Rattle.import_forms.specs.declared.pair.Pair.{Pair}
use Rattle.import_forms.specs.declared.event.BundleEvent.{BundleEvent}
use Rattle.import_forms.specs.declared.enrollment.BundleEnrollment.{BundleEnrollment}
use Rattle.import_forms.specs.declared.enrollment.EnrollmentForm.{EnrollmentForm}
use Rattle.import_forms.specs.Both.{◌⊗◌}
use Rattle.import_forms.specs.Lists.{list_at}
use Rattle.import_forms.specs.Pairs.{attributes_of}
use Rattle.import_forms.specs.Events.{event_form}

-- the enrollment that an object stands for, with these attributes
unfoldable pub enrollment_of : List Pair → Data → BundleEnrollment
enrollment_of told json = record {
  id = text_in (codes "enrollment") json;
  entity = text_in (codes "trackedEntity") json;
  program = text_in (codes "program") json;
  unit = text_in (codes "orgUnit") json;
  enrolled = text_in (codes "enrolledAt") json;
  occurred = text_in (codes "occurredAt") json;
  status = text_in (codes "status") json;
  attributes = told;
}

unfoldable pub whole_enrollment : Data → Formed BundleEnrollment
whole_enrollment json = and_then (attributes_of json) (λ told. Ok (enrollment_of told json))

-- an event in the enrollment of this identifier, which counts where the event names none
abbrev pub in_enrollment : Option (List ℕ) → BundleEvent → BundleEvent
in_enrollment id event = record event { enrollment = option_or event.enrollment id }

abbrev pub with_events : BundleEnrollment → List BundleEvent → EnrollmentForm
with_events own events = record { own = own; events = map (in_enrollment own.id) events }

-- the events come before the attributes
unfoldable pub enrollment_parts : Data → Formed (List BundleEvent × BundleEnrollment)
enrollment_parts json = list_at (codes "events") event_form json ⊗ whole_enrollment json

unfoldable pub enrollment_form : Data → Formed EnrollmentForm
enrollment_form = object_of (λ json. and_then (enrollment_parts json) (λ parts. Ok (with_events parts.1 parts.0)))
