-- Tracker bundles: the lists `trackedEntities`, `enrollments` and `events`.
use Rattle.std.specs.Prelude.{List, ◌++◌, map, codes, Ok}
use Rattle.std.specs.List.{flat_map}
use Rattle.serde_json.specs.Data.{Data}
use Rattle.json_read.specs.Forms.{Formed, and_then, object_of}
use Rattle.import_forms.specs.declared.event.BundleEvent.{BundleEvent}
use Rattle.import_forms.specs.declared.enrollment.EnrollmentForm.{EnrollmentForm}
use Rattle.import_forms.specs.declared.entity.EntityForm.{EntityForm}
use Rattle.import_forms.specs.declared.bundle.BundleParams.{BundleParams}
use Rattle.import_forms.specs.declared.bundle.Bundle.{Bundle}
use Rattle.import_forms.specs.Both.{◌⊗◌}
use Rattle.import_forms.specs.Lists.{list_at}
use Rattle.import_forms.specs.Events.{event_form}
use Rattle.import_forms.specs.Enrollments.{enrollment_form}
use Rattle.import_forms.specs.Entities.{entity_form}

-- entities, enrollments and events, each object with those that stand in it
abbrev pub Lists : Type 0
Lists = List EntityForm × (List EnrollmentForm × List BundleEvent)

-- the three lists, in their order
unfoldable pub three_lists : Data → Formed Lists
three_lists json =
    list_at (codes "trackedEntities") entity_form json
    ⊗ (list_at (codes "enrollments") enrollment_form json ⊗ list_at (codes "events") event_form json)

-- the enrollments of the list, then those that stand in entities
abbrev pub all_enrollments : Lists → List EnrollmentForm
all_enrollments lists = lists.1.0 ++ flat_map (λ form. form.enrollments) lists.0

-- each list in the order in which its objects are judged
unfoldable pub in_order : BundleParams → Lists → Bundle
in_order chosen lists = record {
  params = chosen;
  entities = map (λ form. form.own) lists.0;
  enrollments = map (λ form. form.own) (all_enrollments lists);
  events = lists.1.1 ++ flat_map (λ form. form.events) (all_enrollments lists);
}

-- the bundle that an object stands for
unfoldable pub bundle_of : BundleParams → Data → Formed Bundle
bundle_of chosen = object_of (λ json. and_then (three_lists json) (λ lists. Ok (in_order chosen lists)))
