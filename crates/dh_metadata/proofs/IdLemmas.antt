-- Objects by their identifiers.
use Rattle.std.proofs.Common.{◌≡◌, ◌+◌, ◌∷◌, [], ℕ, Bool, true, false, cond, List, Some, length, subst, arith}
use Rattle.std.specs.List.{position_from}
use Rattle.std.proofs.lemmas.List.{length-map}
use Rattle.dh_metadata.specs.Places.{same_id}
use Rattle.dh_metadata.specs.declared.held.Records.{Records}
use Rattle.dh_metadata.specs.declared.kind.Kind.{Kind}
use Rattle.dh_metadata.specs.declared.kind.Kind.TheVariants.{OrganisationUnit, OrganisationUnitGroup, CategoryOption, Category, CategoryCombo}
use Rattle.dh_metadata.specs.declared.kind.Kind.TheVariants.{CategoryOptionCombo, DataElement, ApprovalLevel, Workflow, DataSet, Constant, IndicatorType}
use Rattle.dh_metadata.specs.declared.kind.Kind.TheVariants.{Indicator, ValidationRule, TrackedEntityType, TrackedEntityAttribute, Program, ProgramStage}
use Rattle.dh_metadata.specs.declared.kind.Kind.TheVariants.{ProgramIndicator, UserRole, User, UserGroup}
use Rattle.dh_metadata.specs.Linked.{IsBelow}
use Rattle.dh_metadata.specs.Objects.{ids_of, count_of, find_of}

-- there are as many identifiers of a kind as objects
pub ids_count : (r : Records) (kind : Kind) → length (ids_of r kind) ≡ count_of r kind
ids_count r OrganisationUnit = length-map r.organisation_units _
ids_count r OrganisationUnitGroup = length-map r.organisation_unit_groups _
ids_count r CategoryOption = length-map r.category_options _
ids_count r Category = length-map r.categories _
ids_count r CategoryCombo = length-map r.category_combos _
ids_count r CategoryOptionCombo = length-map r.category_option_combos _
ids_count r DataElement = length-map r.data_elements _
ids_count r ApprovalLevel = length-map r.data_approval_levels _
ids_count r Workflow = length-map r.data_approval_workflows _
ids_count r DataSet = length-map r.data_sets _
ids_count r Constant = length-map r.constants _
ids_count r IndicatorType = length-map r.indicator_types _
ids_count r Indicator = length-map r.indicators _
ids_count r ValidationRule = length-map r.validation_rules _
ids_count r TrackedEntityType = length-map r.tracked_entity_types _
ids_count r TrackedEntityAttribute = length-map r.tracked_entity_attributes _
ids_count r Program = length-map r.programs _
ids_count r ProgramStage = length-map r.program_stages _
ids_count r ProgramIndicator = length-map r.program_indicators _
ids_count r UserRole = length-map r.user_roles _
ids_count r User = length-map r.users _
ids_count r UserGroup = length-map r.user_groups _

place_within : (test : List ℕ → Bool) (from end : ℕ) (ids : List (List ℕ)) → end ≡ from + length ids → IsBelow end (position_from test from ids)
place_within test from end [] is = tt
place_within test from end (id ∷ ids) is =
    elim (test id) as (λ b. IsBelow end (cond b (Some from) (position_from test (from + 1) ids))) [
      | true ↦ omega arith
      | false ↦ place_within test (from + 1) end ids (omega arith)
    ]

-- a number that is found is that of an object
pub found_below : (r : Records) (kind : Kind) (id : List ℕ) → IsBelow (count_of r kind) (find_of r kind id)
found_below r kind id =
    subst (λ n. IsBelow n (find_of r kind id)) (ids_count r kind)
    (place_within (λ other. same_id id other) 0 (length (ids_of r kind)) (ids_of r kind) (omega arith))
