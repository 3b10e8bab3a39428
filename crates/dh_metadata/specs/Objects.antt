-- Objects by number and by identifier.
use Rattle.std.specs.Prelude.{◌≡◌, ℕ, Bool, true, false, List, length, map, slice_get, Option, None, option_map}
use Rattle.dh_metadata.specs.Places.{place_of}
use Rattle.dh_metadata.specs.Ids.{ids_at}
use Rattle.dh_sharing.specs.declared.rule.Sharing.{Sharing}
use Rattle.dh_metadata.specs.declared.held.Records.{Records}
use Rattle.dh_metadata.specs.declared.kind.Kind.{Kind}
use Rattle.dh_metadata.specs.declared.kind.Kind.TheVariants.{OrganisationUnit, OrganisationUnitGroup, CategoryOption, Category, CategoryCombo}
use Rattle.dh_metadata.specs.declared.kind.Kind.TheVariants.{CategoryOptionCombo, DataElement, ApprovalLevel, Workflow, DataSet, Constant, IndicatorType}
use Rattle.dh_metadata.specs.declared.kind.Kind.TheVariants.{Indicator, ValidationRule, TrackedEntityType, TrackedEntityAttribute, Program, ProgramStage}
use Rattle.dh_metadata.specs.declared.kind.Kind.TheVariants.{ProgramIndicator, UserRole, User, UserGroup}

-- the identifiers of a kind's objects, by number
abbrev pub ids_of : Records → Kind → List (List ℕ)
ids_of r OrganisationUnit = map (λ object. object.id) r.organisation_units
ids_of r OrganisationUnitGroup = map (λ object. object.id) r.organisation_unit_groups
ids_of r CategoryOption = map (λ object. object.id) r.category_options
ids_of r Category = map (λ object. object.id) r.categories
ids_of r CategoryCombo = map (λ object. object.id) r.category_combos
ids_of r CategoryOptionCombo = map (λ object. object.id) r.category_option_combos
ids_of r DataElement = map (λ object. object.id) r.data_elements
ids_of r ApprovalLevel = map (λ object. object.id) r.data_approval_levels
ids_of r Workflow = map (λ object. object.id) r.data_approval_workflows
ids_of r DataSet = map (λ object. object.id) r.data_sets
ids_of r Constant = map (λ object. object.id) r.constants
ids_of r IndicatorType = map (λ object. object.id) r.indicator_types
ids_of r Indicator = map (λ object. object.id) r.indicators
ids_of r ValidationRule = map (λ object. object.id) r.validation_rules
ids_of r TrackedEntityType = map (λ object. object.id) r.tracked_entity_types
ids_of r TrackedEntityAttribute = map (λ object. object.id) r.tracked_entity_attributes
ids_of r Program = map (λ object. object.id) r.programs
ids_of r ProgramStage = map (λ object. object.id) r.program_stages
ids_of r ProgramIndicator = map (λ object. object.id) r.program_indicators
ids_of r UserRole = map (λ object. object.id) r.user_roles
ids_of r User = map (λ object. object.id) r.users
ids_of r UserGroup = map (λ object. object.id) r.user_groups

-- these are the identifiers of each kind
abbrev pub HaveIds : Records → List (List (List ℕ)) → Type 0
HaveIds r ids = (kind : Kind) → ids_at ids kind ≡ ids_of r kind

-- how many objects of a kind there are
abbrev pub count_of : Records → Kind → ℕ
count_of r OrganisationUnit = length r.organisation_units
count_of r OrganisationUnitGroup = length r.organisation_unit_groups
count_of r CategoryOption = length r.category_options
count_of r Category = length r.categories
count_of r CategoryCombo = length r.category_combos
count_of r CategoryOptionCombo = length r.category_option_combos
count_of r DataElement = length r.data_elements
count_of r ApprovalLevel = length r.data_approval_levels
count_of r Workflow = length r.data_approval_workflows
count_of r DataSet = length r.data_sets
count_of r Constant = length r.constants
count_of r IndicatorType = length r.indicator_types
count_of r Indicator = length r.indicators
count_of r ValidationRule = length r.validation_rules
count_of r TrackedEntityType = length r.tracked_entity_types
count_of r TrackedEntityAttribute = length r.tracked_entity_attributes
count_of r Program = length r.programs
count_of r ProgramStage = length r.program_stages
count_of r ProgramIndicator = length r.program_indicators
count_of r UserRole = length r.user_roles
count_of r User = length r.users
count_of r UserGroup = length r.user_groups

-- the number of the object of a kind that has the identifier
abbrev pub find_of : Records → Kind → List ℕ → Option ℕ
find_of r kind id = place_of (ids_of r kind) id

-- the kinds whose objects are shared
abbrev pub is_shared : Kind → Bool
is_shared CategoryOption = true
is_shared DataElement = true
is_shared DataSet = true
is_shared Indicator = true
is_shared ValidationRule = true
is_shared TrackedEntityType = true
is_shared Program = true
is_shared ProgramIndicator = true
is_shared kind = false

-- how an object is shared; None where there is no such object, or its kind isn't shared
abbrev pub sharing_of : Records → Kind → ℕ → Option Sharing
sharing_of r CategoryOption n = option_map (λ object. object.sharing) (slice_get r.category_options n)
sharing_of r DataElement n = option_map (λ object. object.sharing) (slice_get r.data_elements n)
sharing_of r DataSet n = option_map (λ object. object.sharing) (slice_get r.data_sets n)
sharing_of r Indicator n = option_map (λ object. object.sharing) (slice_get r.indicators n)
sharing_of r ValidationRule n = option_map (λ object. object.sharing) (slice_get r.validation_rules n)
sharing_of r TrackedEntityType n = option_map (λ object. object.sharing) (slice_get r.tracked_entity_types n)
sharing_of r Program n = option_map (λ object. object.sharing) (slice_get r.programs n)
sharing_of r ProgramIndicator n = option_map (λ object. object.sharing) (slice_get r.program_indicators n)
sharing_of r kind n = None
