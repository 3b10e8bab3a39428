-- The identifiers of the objects of a metadata file.
use Rattle.std.specs.Prelude.{ℕ, List, [], ◌∷◌, ◌++◌, cond, map, get_or, Option, None, Some, option_map}
use Rattle.std.specs.Option.{option_or}
use Rattle.std.specs.List.{flat_map}
use Rattle.dh_metadata.specs.Places.{repeat_of, is_one_of}
use Rattle.dh_metadata.specs.BuiltIn.{default_combo, default_option_combo}
use Rattle.dh_metadata.specs.declared.parts.MetaParts.{MetaParts}
use Rattle.dh_metadata.specs.declared.kind.Kind.{Kind}
use Rattle.dh_metadata.specs.declared.kind.Kind.TheVariants.{OrganisationUnit, OrganisationUnitGroup, CategoryOption, Category, CategoryCombo}
use Rattle.dh_metadata.specs.declared.kind.Kind.TheVariants.{CategoryOptionCombo, DataElement, ApprovalLevel, Workflow, DataSet, Constant, IndicatorType}
use Rattle.dh_metadata.specs.declared.kind.Kind.TheVariants.{Indicator, ValidationRule, TrackedEntityType, TrackedEntityAttribute, Program, ProgramStage}
use Rattle.dh_metadata.specs.declared.kind.Kind.TheVariants.{ProgramIndicator, UserRole, User, UserGroup}

-- the kinds in the order in which they are tried
abbrev pub kinds : List Kind
kinds =
    OrganisationUnit ∷ OrganisationUnitGroup ∷ CategoryOption ∷ Category ∷ CategoryCombo ∷ CategoryOptionCombo ∷ DataElement ∷ ApprovalLevel ∷ Workflow ∷
    DataSet ∷ Constant ∷ IndicatorType ∷ Indicator ∷ ValidationRule ∷ TrackedEntityType ∷ TrackedEntityAttribute ∷ Program ∷ ProgramStage ∷ ProgramIndicator ∷
    UserRole ∷ User ∷ UserGroup ∷ []

-- the place of a kind among them, from 0
abbrev pub kind_place : Kind → ℕ
kind_place OrganisationUnit = 0
kind_place OrganisationUnitGroup = 1
kind_place CategoryOption = 2
kind_place Category = 3
kind_place CategoryCombo = 4
kind_place CategoryOptionCombo = 5
kind_place DataElement = 6
kind_place ApprovalLevel = 7
kind_place Workflow = 8
kind_place DataSet = 9
kind_place Constant = 10
kind_place IndicatorType = 11
kind_place Indicator = 12
kind_place ValidationRule = 13
kind_place TrackedEntityType = 14
kind_place TrackedEntityAttribute = 15
kind_place Program = 16
kind_place ProgramStage = 17
kind_place ProgramIndicator = 18
kind_place UserRole = 19
kind_place User = 20
kind_place UserGroup = 21

-- the identifiers of the objects of a kind by number: a built-in object has the number 0, and the file's objects follow
abbrev pub ids_in : MetaParts → Kind → List (List ℕ)
ids_in parts OrganisationUnit = map (λ object. object.id) parts.organisation_units
ids_in parts OrganisationUnitGroup = map (λ object. object.id) parts.organisation_unit_groups
ids_in parts CategoryOption = map (λ object. object.id) parts.category_options
ids_in parts Category = map (λ object. object.id) parts.categories
ids_in parts CategoryCombo = default_combo ∷ map (λ object. object.id) parts.category_combos
ids_in parts CategoryOptionCombo = default_option_combo ∷ map (λ object. object.id) parts.category_option_combos
ids_in parts DataElement = map (λ object. object.id) parts.data_elements
ids_in parts ApprovalLevel = map (λ object. object.id) parts.data_approval_levels
ids_in parts Workflow = map (λ object. object.id) parts.data_approval_workflows
ids_in parts DataSet = map (λ object. object.id) parts.data_sets
ids_in parts Constant = map (λ object. object.id) parts.constants
ids_in parts IndicatorType = map (λ object. object.id) parts.indicator_types
ids_in parts Indicator = map (λ object. object.id) parts.indicators
ids_in parts ValidationRule = map (λ object. object.id) parts.validation_rules
ids_in parts TrackedEntityType = map (λ object. object.id) parts.tracked_entity_types
ids_in parts TrackedEntityAttribute = map (λ object. object.id) parts.tracked_entity_attributes
ids_in parts Program = map (λ object. object.id) parts.programs
ids_in parts ProgramStage = map (λ object. object.id) parts.program_stages
ids_in parts ProgramIndicator = map (λ object. object.id) parts.program_indicators
ids_in parts UserRole = map (λ object. object.id) parts.user_roles
ids_in parts User = map (λ object. object.id) parts.users
ids_in parts UserGroup = map (λ object. object.id) parts.user_groups

-- the identifiers of each kind
unfoldable pub ids_of : MetaParts → List (List (List ℕ))
ids_of parts = map (ids_in parts) kinds

-- those of one kind
abbrev pub ids_at : List (List (List ℕ)) → Kind → List (List ℕ)
ids_at ids kind = get_or ids (kind_place kind) []

-- all of them, one kind after the other
abbrev pub joined : List (List (List ℕ)) → List (List ℕ)
joined ids = flat_map (λ of_kind. of_kind) ids

unfoldable pub all_ids : MetaParts → List (List ℕ)
all_ids parts = joined (ids_of parts)

-- the first identifier that stands earlier in the list too
abbrev pub repeated : List (List ℕ) → Option (List ℕ)
repeated ids = option_map (λ place. get_or ids place []) (repeat_of ids)

-- the user of the first token, after others, that is one of those before it
abbrev pub user_behind : List (List ℕ) → List (List ℕ × List ℕ) → Option (List ℕ)
user_behind before [] = None
user_behind before (token ∷ tokens) = cond (is_one_of before token.0) (Some token.1) (user_behind (before ++ token.0 ∷ []) tokens)

-- the user of the first token that stands earlier in the list too
unfoldable pub user_of_repeated : List (List ℕ × List ℕ) → Option (List ℕ)
user_of_repeated tokens = user_behind [] tokens

-- the identifier that is told where something stands twice: of the first object, of whatever kind, that has the identifier
-- of one before it, else of the user of the first token that is one of those before it
unfoldable pub twice_of : MetaParts → Option (List ℕ)
twice_of parts = option_or (repeated (all_ids parts)) (user_of_repeated parts.api_tokens)
