-- How a tracked entity is judged, and what is written of it.
use Rattle.std.specs.Prelude.{ℕ, Bool, ◌||◌, List, [], ◌∷◌, slice_get, Option, Some, option_and_then}
use Rattle.std.specs.Option.{option_map_or, is_some, is_none}
use Rattle.dh_base.specs.declared.codes.Code.{Code}
use Rattle.dh_base.specs.declared.codes.Code.TheVariants.{T1, T2, T3, T11}
use Rattle.dh_changes.specs.declared.tracker.Entity.{Entity}
use Rattle.dh_changes.specs.declared.change.Write.TheVariants as write
use Rattle.dh_metadata.specs.declared.held.Records.{Records}
use Rattle.dh_metadata.specs.declared.kind.Kind.TheVariants.{OrganisationUnit, TrackedEntityType}
use Rattle.dh_metadata.specs.declared.records.EntityType.{EntityType}
use Rattle.dh_changes.specs.Facts.{Facts}
use Rattle.dh_changes.specs.declared.outcome.Who.{Who}
use Rattle.dh_changes.specs.declared.outcome.ImportStrategy.{ImportStrategy}
use Rattle.import_forms.specs.declared.pair.Pair.{Pair}
use Rattle.import_forms.specs.declared.entity.BundleEntity.{BundleEntity}
use Rattle.value_import.specs.Names.{object_named}
use Rattle.value_import.specs.Rules.{Condition}
use Rattle.value_import.specs.Values.{unit_id}
use Rattle.tracker_import.specs.declared.names.EntityNames.{EntityNames}
use Rattle.tracker_import.specs.declared.pairs.ItemKind.TheVariants.{Attribute}
use Rattle.tracker_import.specs.declared.judged.Judged.{Judged}
use Rattle.tracker_import.specs.declared.judged.Judged.TheVariants as judged
use Rattle.tracker_import.specs.Rules.{id_in}
use Rattle.tracker_import.specs.Pairs.{Told, has_unknown, has_unfit, merged}
use Rattle.tracker_import.specs.Rules.{first_in, right_conditions, standing_conditions}
use Rattle.tracker_import.specs.Rules.{judged_by, put}

-- ---- what it names

unfoldable pub entity_names : Records → BundleEntity → EntityNames
entity_names r asked = record {
  id = id_in asked.id;
  kind = object_named r TrackedEntityType asked.kind;
  unit = object_named r OrganisationUnit asked.unit;
}

-- no identifier of its own; no such type or attribute; no such unit
unfoldable pub entity_name_conditions : Records → EntityNames → List Pair → List Condition
entity_name_conditions r names pairs =
    (T1, is_none names.id)
    ∷ (T2, is_none names.kind || has_unknown r Attribute pairs)
    ∷ (T3, is_none names.unit)
    ∷ []

-- a value doesn't fit its attribute
unfoldable pub entity_value_conditions : Records → List Pair → List Condition
entity_value_conditions r pairs = (T11, has_unfit r Attribute pairs) ∷ []

-- the first condition that holds, of an entity that is there or isn't, and was judged before or wasn't
unfoldable pub entity_conflict : Facts → Records → Who → ImportStrategy → Bool → Bool → EntityNames → List Pair → Option Code
entity_conflict facts r who chosen live repeated names pairs = first_in (
    entity_name_conditions r names pairs
    ∷ right_conditions facts r who names.unit TrackedEntityType names.kind
    ∷ entity_value_conditions r pairs
    ∷ standing_conditions chosen live repeated
    ∷ [])

-- ---- what is written

unfoldable pub type_id : Records → ℕ → List ℕ
type_id r kind = option_map_or (λ (found : EntityType). found.id) (slice_get r.tracked_entity_types kind) []

abbrev pub attributes_of : Option Entity → List Told
attributes_of entity = option_map_or (λ (e : Entity). e.attributes) entity []

-- the entity as it is after the write: attributes that the pairs don't name stay
unfoldable pub entity_after : Records → Option Entity → EntityNames → List Pair → Option Entity
entity_after r before names pairs =
    option_and_then (λ id.
    option_and_then (λ kind.
    option_and_then (λ unit.
    Some (record { id = id; kind = type_id r kind; unit = unit_id r unit; attributes = merged r (attributes_of before) pairs }))
    names.unit) names.kind) names.id

-- what an entity comes to, which is there as it is before or isn't
unfoldable pub judged_entity : Facts → Records → Who → ImportStrategy → Option Entity → Bool → BundleEntity → Judged
judged_entity facts r who chosen before repeated asked =
    judged_by (entity_conflict facts r who chosen (is_some before) repeated (entity_names r asked) asked.attributes)
    (option_map_or (λ after. put (is_some before) (write.EntityWritten after ∷ []))
    (entity_after r before (entity_names r asked) asked.attributes) judged.Nothing)
