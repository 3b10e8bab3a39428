-- The rows of events.
use Rattle.std.specs.Prelude.{ℕ, ℤ, List, [], Option, option_map, option_and_then}
use Rattle.std.specs.Option.{option_map_or}
use Rattle.std.specs.List.{filter_map}
use Rattle.std.specs.Ordering.{ordering_then, nat_cmp, int_cmp}
use Rattle.std.specs.Cmp.Lexicographic.{slice_cmp}
use Rattle.std.specs.declared.cmp.Ordering.{Ordering}
use Rattle.dh_changes.specs.declared.tracker.Event.{Event}
use Rattle.dh_changes.specs.declared.tracker.Enrollment.{Enrollment}
use Rattle.dh_changes.specs.declared.tracker.Entity.{Entity}
use Rattle.org_tree.specs.Units.{order_of}
use Rattle.dh_metadata.specs.declared.held.Records.{Records}
use Rattle.dh_metadata.specs.declared.kind.Kind.TheVariants.{OrganisationUnit, Program, ProgramStage}
use Rattle.dh_metadata.specs.Objects.{find_of}
use Rattle.dh_changes.specs.Facts.{Facts}
use Rattle.dh_records.specs.Access.{tree}
use Rattle.table_rows.specs.declared.event.EventRow.{EventRow}
use Rattle.table_rows.specs.declared.event.ItemValue.{ItemValue}
use Rattle.table_build.specs.declared.events.EventObjects.{EventObjects}
use Rattle.table_build.specs.declared.events.EventPlace.{EventPlace}
use Rattle.table_build.specs.Ordered.{in_order}
use Rattle.table_build.specs.Items.{element_values, attribute_values}

-- what events are ordered by
abbrev pub event_place : List ℕ → ℤ → EventPlace
event_place id day = record { day = day; id = id }

abbrev pub place_cmp : EventPlace → EventPlace → Ordering
place_cmp a b = ordering_then (int_cmp a.day b.day) (slice_cmp nat_cmp a.id b.id)

-- the place of an event that is live and has a day of occurrence
unfoldable pub place_of : Facts → List ℕ → Option EventPlace
place_of facts id = option_and_then (λ (event : Event). option_map (event_place id) event.occurred) (facts.event id)

-- the places of events, by day and identifier
unfoldable pub places_of : Facts → List (List ℕ) → List EventPlace
places_of facts ids = in_order place_cmp (λ place. place) (filter_map (place_of facts) ids)

abbrev pub event_objects : ℕ → ℕ → ℕ → EventObjects
event_objects program stage unit = record { program = program; stage = stage; unit = unit }

-- the numbers of the objects that an event names, where all stand in the metadata
unfoldable pub objects_of : Records → Event → Option EventObjects
objects_of r event =
    option_and_then (λ program. option_and_then (λ stage. option_map (λ unit. event_objects program stage unit)
    (find_of r OrganisationUnit event.unit)) (find_of r ProgramStage event.stage)) (find_of r Program event.program)

-- the enrollment of an event, where it is live
unfoldable pub enrollment_of : Facts → Event → Option Enrollment
enrollment_of facts event = option_and_then facts.enrollment event.enrollment

-- the entity of that enrollment, where it is live
unfoldable pub entity_of : Facts → Event → Option Entity
entity_of facts event = option_and_then (λ (enrollment : Enrollment). facts.entity enrollment.entity) (enrollment_of facts event)

unfoldable pub entity_id : Option Entity → Option (List ℕ)
entity_id found = option_map (λ (entity : Entity). entity.id) found

unfoldable pub enrolled_day : Option Enrollment → Option ℤ
enrolled_day found = option_and_then (λ (enrollment : Enrollment). enrollment.enrolled) found

unfoldable pub entity_values : Records → Option Entity → List (ℕ × ItemValue)
entity_values r found = option_map_or (λ (entity : Entity). attribute_values r entity.attributes) found []

unfoldable pub event_with : Records → Facts → EventPlace → Event → EventObjects → EventRow
event_with r facts place event objects = record {
  id = place.id;
  enrollment = event.enrollment;
  entity = entity_id (entity_of facts event);
  program = objects.program;
  stage = objects.stage;
  order = order_of (tree facts r) objects.unit;
  day = place.day;
  enrolled = enrolled_day (enrollment_of facts event);
  values = element_values r event.values;
  attributes = entity_values r (entity_of facts event);
}

-- the row of an event whose objects stand in the metadata
unfoldable pub event_at : Records → Facts → EventPlace → Option EventRow
event_at r facts place = option_and_then (λ (event : Event). option_map (event_with r facts place event) (objects_of r event)) (facts.event place.id)

-- the rows of events, by day and identifier
unfoldable pub events_of : Records → Facts → List (List ℕ) → List EventRow
events_of r facts ids = filter_map (event_at r facts) (places_of facts ids)
