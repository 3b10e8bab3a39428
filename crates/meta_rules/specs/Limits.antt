-- How many objects metadata may have.
use Rattle.std.specs.Prelude.{ℕ, ℤ, nat_lt, Bool, List, [], ◌∷◌, length, Option}
use Rattle.std.specs.List.{list_any, find}
use lib.Chars.{codes}
use Rattle.dh_metadata.specs.Keys.{key_of}
use Rattle.dh_metadata.specs.declared.parts.MetaParts.{MetaParts}
use Rattle.dh_metadata.specs.declared.kind.Kind.{Kind}
use Rattle.dh_metadata.specs.declared.kind.Kind.TheVariants.{OrganisationUnit, OrganisationUnitGroup, CategoryOption, Category, CategoryCombo}
use Rattle.dh_metadata.specs.declared.kind.Kind.TheVariants.{CategoryOptionCombo, DataElement, ApprovalLevel, Workflow, DataSet, Constant, IndicatorType}
use Rattle.dh_metadata.specs.declared.kind.Kind.TheVariants.{Indicator, ValidationRule, TrackedEntityType, TrackedEntityAttribute, Program, ProgramStage}
use Rattle.dh_metadata.specs.declared.kind.Kind.TheVariants.{ProgramIndicator, UserRole, User, UserGroup}
use Rattle.meta_rules.specs.declared.limits.LimitFault.{LimitFault}
use Rattle.meta_rules.specs.declared.limits.LimitFault.TheVariants.{Objects, Levels, Tokens}

unfoldable pub limit_text : LimitFault → List ℕ
limit_text (Objects kind) = key_of kind
limit_text Levels = codes "levels"
limit_text Tokens = codes "apiTokens"

-- the limits in the order of the keys; that of a workflow's levels stands after that of the workflows
abbrev pub limits : List LimitFault
limits =
    Objects OrganisationUnit ∷ Objects OrganisationUnitGroup ∷ Objects CategoryOption ∷ Objects Category ∷ Objects CategoryCombo
    ∷ Objects CategoryOptionCombo ∷ Objects DataElement ∷ Objects ApprovalLevel ∷ Objects Workflow ∷ Levels ∷ Objects DataSet
    ∷ Objects Constant ∷ Objects IndicatorType ∷ Objects Indicator ∷ Objects ValidationRule ∷ Objects TrackedEntityType
    ∷ Objects TrackedEntityAttribute ∷ Objects Program ∷ Objects ProgramStage ∷ Objects ProgramIndicator ∷ Objects UserRole
    ∷ Objects User ∷ Objects UserGroup ∷ Tokens ∷ []

-- how many objects of a kind the file has, without the built-in ones
abbrev pub objects_of : MetaParts → Kind → ℕ
objects_of parts OrganisationUnit = length parts.organisation_units
objects_of parts OrganisationUnitGroup = length parts.organisation_unit_groups
objects_of parts CategoryOption = length parts.category_options
objects_of parts Category = length parts.categories
objects_of parts CategoryCombo = length parts.category_combos
objects_of parts CategoryOptionCombo = length parts.category_option_combos
objects_of parts DataElement = length parts.data_elements
objects_of parts ApprovalLevel = length parts.data_approval_levels
objects_of parts Workflow = length parts.data_approval_workflows
objects_of parts DataSet = length parts.data_sets
objects_of parts Constant = length parts.constants
objects_of parts IndicatorType = length parts.indicator_types
objects_of parts Indicator = length parts.indicators
objects_of parts ValidationRule = length parts.validation_rules
objects_of parts TrackedEntityType = length parts.tracked_entity_types
objects_of parts TrackedEntityAttribute = length parts.tracked_entity_attributes
objects_of parts Program = length parts.programs
objects_of parts ProgramStage = length parts.program_stages
objects_of parts ProgramIndicator = length parts.program_indicators
objects_of parts UserRole = length parts.user_roles
objects_of parts User = length parts.users
objects_of parts UserGroup = length parts.user_groups

-- the most objects of a kind
abbrev pub most_of : Kind → ℕ
most_of OrganisationUnit = 65536
most_of _ = 16384

-- more than a limit allows: objects under a key, or levels of a workflow, each of which has its different levels in a list
abbrev pub passes : MetaParts → List (List ℤ) → LimitFault → Bool
passes parts positions (Objects kind) = nat_lt (most_of kind) (objects_of parts kind)
passes parts positions Levels = list_any (λ own. nat_lt 8 (length own)) positions
passes parts positions Tokens = nat_lt 16384 (length parts.api_tokens)

-- the first limit that the file passes
unfoldable pub first_passed : MetaParts → List (List ℤ) → Option LimitFault
first_passed parts positions = find (passes parts positions) limits
