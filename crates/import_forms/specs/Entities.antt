-- Tracked entities, with the enrollments that stand in them.
use Rattle.std.specs.Prelude.{ℕ, List, map, Option, codes, Ok}
use Rattle.std.specs.Option.{option_or}
use Rattle.serde_json.specs.Data.{Data}
use Rattle.json_read.specs.Forms.{Formed, and_then, object_of}
use Rattle.import_forms.specs.Texts.{text_in}
use Rattle.import_forms.specs.declared.pair.Pair.{Pair}
use Rattle.import_forms.specs.declared.enrollment.EnrollmentForm.{EnrollmentForm}
use Rattle.import_forms.specs.declared.entity.BundleEntity.{BundleEntity}
use Rattle.import_forms.specs.declared.entity.EntityForm.{EntityForm}
use Rattle.import_forms.specs.Both.{◌⊗◌}
use Rattle.import_forms.specs.Lists.{list_at}
use Rattle.import_forms.specs.Pairs.{attributes_of}
use Rattle.import_forms.specs.Enrollments.{enrollment_form}

-- the entity that an object stands for, with these attributes
unfoldable pub entity_of : List Pair → Data → BundleEntity
entity_of told json = record {
  id = text_in (codes "trackedEntity") json;
  kind = text_in (codes "trackedEntityType") json;
  unit = text_in (codes "orgUnit") json;
  attributes = told;
}

unfoldable pub whole_entity : Data → Formed BundleEntity
whole_entity json = and_then (attributes_of json) (λ told. Ok (entity_of told json))

-- an enrollment in the entity of this identifier, which counts where the enrollment names none
abbrev pub in_entity : Option (List ℕ) → EnrollmentForm → EnrollmentForm
in_entity id form = record form { own = record form.own { entity = option_or form.own.entity id } }

abbrev pub with_enrollments : BundleEntity → List EnrollmentForm → EntityForm
with_enrollments own enrollments = record { own = own; enrollments = map (in_entity own.id) enrollments }

-- the enrollments come before the attributes
unfoldable pub entity_parts : Data → Formed (List EnrollmentForm × BundleEntity)
entity_parts json = list_at (codes "enrollments") enrollment_form json ⊗ whole_entity json

unfoldable pub entity_form : Data → Formed EntityForm
entity_form = object_of (λ json. and_then (entity_parts json) (λ parts. Ok (with_enrollments parts.1 parts.0)))
