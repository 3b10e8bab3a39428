-- The keys of the metadata file.
use Rattle.std.specs.Prelude.{ℕ, List}
use lib.Chars.{codes}
use Rattle.dh_metadata.specs.declared.kind.Kind.{Kind}
use Rattle.dh_metadata.specs.declared.kind.Kind.TheVariants.{OrganisationUnit, OrganisationUnitGroup, CategoryOption, Category, CategoryCombo}
use Rattle.dh_metadata.specs.declared.kind.Kind.TheVariants.{CategoryOptionCombo, DataElement, ApprovalLevel, Workflow, DataSet, Constant, IndicatorType}
use Rattle.dh_metadata.specs.declared.kind.Kind.TheVariants.{Indicator, ValidationRule, TrackedEntityType, TrackedEntityAttribute, Program, ProgramStage}
use Rattle.dh_metadata.specs.declared.kind.Kind.TheVariants.{ProgramIndicator, UserRole, User, UserGroup}

-- the key under which the objects of a kind stand
unfoldable pub key_of : Kind → List ℕ
key_of OrganisationUnit = codes "organisationUnits"
key_of OrganisationUnitGroup = codes "organisationUnitGroups"
key_of CategoryOption = codes "categoryOptions"
key_of Category = codes "categories"
key_of CategoryCombo = codes "categoryCombos"
key_of CategoryOptionCombo = codes "categoryOptionCombos"
key_of DataElement = codes "dataElements"
key_of ApprovalLevel = codes "dataApprovalLevels"
key_of Workflow = codes "dataApprovalWorkflows"
key_of DataSet = codes "dataSets"
key_of Constant = codes "constants"
key_of IndicatorType = codes "indicatorTypes"
key_of Indicator = codes "indicators"
key_of ValidationRule = codes "validationRules"
key_of TrackedEntityType = codes "trackedEntityTypes"
key_of TrackedEntityAttribute = codes "trackedEntityAttributes"
key_of Program = codes "programs"
key_of ProgramStage = codes "programStages"
key_of ProgramIndicator = codes "programIndicators"
key_of UserRole = codes "userRoles"
key_of User = codes "users"
key_of UserGroup = codes "userGroups"
