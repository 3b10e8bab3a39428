-- The references of each object of a metadata file, in the order of its fields.
use Rattle.std.specs.Prelude.{ℕ, List, [], ◌++◌, Option}
use Rattle.std.specs.List.{flat_map}
use Rattle.std.specs.Fmt.{decimal}
use lib.Chars.{codes}
use Rattle.dh_sharing.specs.declared.access.Access.{Access}
use Rattle.dh_metadata.specs.declared.raw.RawUnit.{RawUnit}
use Rattle.dh_metadata.specs.declared.raw.RawUnitGroup.{RawUnitGroup}
use Rattle.dh_metadata.specs.declared.raw.RawCategoryOption.{RawCategoryOption}
use Rattle.dh_metadata.specs.declared.raw.RawCategory.{RawCategory}
use Rattle.dh_metadata.specs.declared.raw.RawCategoryCombo.{RawCategoryCombo}
use Rattle.dh_metadata.specs.declared.raw.RawOptionCombo.{RawOptionCombo}
use Rattle.dh_metadata.specs.declared.raw.RawElement.{RawElement}
use Rattle.dh_metadata.specs.declared.raw.RawApprovalLevel.{RawApprovalLevel}
use Rattle.dh_metadata.specs.declared.raw.RawWorkflow.{RawWorkflow}
use Rattle.dh_metadata.specs.declared.raw.RawDataSet.{RawDataSet}
use Rattle.dh_metadata.specs.declared.raw.RawConstant.{RawConstant}
use Rattle.dh_metadata.specs.declared.raw.RawIndicatorType.{RawIndicatorType}
use Rattle.dh_metadata.specs.declared.raw.RawIndicator.{RawIndicator}
use Rattle.dh_metadata.specs.declared.raw.RawRule.{RawRule}
use Rattle.dh_metadata.specs.declared.raw.RawEntityType.{RawEntityType}
use Rattle.dh_metadata.specs.declared.raw.RawAttribute.{RawAttribute}
use Rattle.dh_metadata.specs.declared.raw.RawProgram.{RawProgram}
use Rattle.dh_metadata.specs.declared.raw.RawStage.{RawStage}
use Rattle.dh_metadata.specs.declared.raw.RawProgramIndicator.{RawProgramIndicator}
use Rattle.dh_metadata.specs.declared.raw.RawRole.{RawRole}
use Rattle.dh_metadata.specs.declared.raw.RawUser.{RawUser}
use Rattle.dh_metadata.specs.declared.raw.RawUserGroup.{RawUserGroup}
use Rattle.dh_metadata.specs.declared.raw.RawSharing.{RawSharing}
use Rattle.dh_metadata.specs.declared.parts.MetaParts.{MetaParts}
use Rattle.dh_metadata.specs.declared.kind.Kind.{Kind}
use Rattle.dh_metadata.specs.declared.kind.Kind.TheVariants as kind
use Rattle.dh_metadata.specs.Ids.{kinds}
use Rattle.meta_links.specs.Reference.{Reference, step, field_path, one, optional, each, several, several_in}

-- users or user groups that an object is shared with, by their keys
unfoldable pub entries : List ℕ → Kind → List (List ℕ × List ℕ × Access) → List Reference
entries path of_kind shared = flat_map (λ entry. one (step path entry.0) of_kind entry.1) shared

-- how an object is shared
unfoldable pub sharing_references : Kind → ℕ → RawSharing → List Reference
sharing_references of_kind place sharing =
    optional (field_path of_kind place (codes "sharing.owner")) kind.User sharing.owner
    ++ entries (field_path of_kind place (codes "sharing.users")) kind.User sharing.users
    ++ entries (field_path of_kind place (codes "sharing.userGroups")) kind.UserGroup sharing.groups

unfoldable pub unit_references : RawUnit → List Reference
unit_references unit = optional (field_path kind.OrganisationUnit unit.place (codes "parent")) kind.OrganisationUnit unit.parent

unfoldable pub unit_group_references : RawUnitGroup → List Reference
unit_group_references unit_group =
    several (field_path kind.OrganisationUnitGroup unit_group.place (codes "organisationUnits")) kind.OrganisationUnit unit_group.organisation_units

unfoldable pub category_option_references : RawCategoryOption → List Reference
category_option_references category_option = sharing_references kind.CategoryOption category_option.place category_option.sharing

unfoldable pub category_references : RawCategory → List Reference
category_references category = several (field_path kind.Category category.place (codes "categoryOptions")) kind.CategoryOption category.category_options

unfoldable pub category_combo_references : RawCategoryCombo → List Reference
category_combo_references category_combo =
    several (field_path kind.CategoryCombo category_combo.place (codes "categories")) kind.Category category_combo.categories

unfoldable pub option_combo_references : RawOptionCombo → List Reference
option_combo_references option_combo =
    one (field_path kind.CategoryOptionCombo option_combo.place (codes "categoryCombo")) kind.CategoryCombo option_combo.category_combo
    ++ several (field_path kind.CategoryOptionCombo option_combo.place (codes "categoryOptions")) kind.CategoryOption option_combo.category_options

unfoldable pub element_references : RawElement → List Reference
element_references element =
    one (field_path kind.DataElement element.place (codes "categoryCombo")) kind.CategoryCombo element.category_combo
    ++ sharing_references kind.DataElement element.place element.sharing

unfoldable pub approval_level_references : RawApprovalLevel → List Reference
approval_level_references approval_level = []

unfoldable pub workflow_references : RawWorkflow → List Reference
workflow_references workflow = several (field_path kind.Workflow workflow.place (codes "dataApprovalLevels")) kind.ApprovalLevel workflow.data_approval_levels

-- an element of a data set, with its category combination where it is named
abbrev pub set_element : List ℕ → ℕ → List ℕ × Option (List ℕ) → List Reference
set_element path place element =
    one (step (step path (decimal place)) (codes "dataElement")) kind.DataElement element.0
    ++ optional (step (step path (decimal place)) (codes "categoryCombo")) kind.CategoryCombo element.1

unfoldable pub set_elements : List ℕ → List (List ℕ × Option (List ℕ)) → List Reference
set_elements path elements = each (set_element path) 0 elements

unfoldable pub data_set_references : RawDataSet → List Reference
data_set_references data_set =
    set_elements (field_path kind.DataSet data_set.place (codes "dataSetElements")) data_set.data_set_elements
    ++ several (field_path kind.DataSet data_set.place (codes "organisationUnits")) kind.OrganisationUnit data_set.organisation_units
    ++ one (field_path kind.DataSet data_set.place (codes "categoryCombo")) kind.CategoryCombo data_set.category_combo
    ++ optional (field_path kind.DataSet data_set.place (codes "workflow")) kind.Workflow data_set.workflow
    ++ sharing_references kind.DataSet data_set.place data_set.sharing

unfoldable pub constant_references : RawConstant → List Reference
constant_references constant = []

unfoldable pub indicator_type_references : RawIndicatorType → List Reference
indicator_type_references indicator_type = []

unfoldable pub indicator_references : RawIndicator → List Reference
indicator_references indicator =
    one (field_path kind.Indicator indicator.place (codes "indicatorType")) kind.IndicatorType indicator.indicator_type
    ++ sharing_references kind.Indicator indicator.place indicator.sharing

unfoldable pub rule_references : RawRule → List Reference
rule_references rule = sharing_references kind.ValidationRule rule.place rule.sharing

unfoldable pub entity_type_references : RawEntityType → List Reference
entity_type_references entity_type = sharing_references kind.TrackedEntityType entity_type.place entity_type.sharing

unfoldable pub attribute_references : RawAttribute → List Reference
attribute_references attribute = []

unfoldable pub program_references : RawProgram → List Reference
program_references program =
    optional (field_path kind.Program program.place (codes "trackedEntityType")) kind.TrackedEntityType program.tracked_entity_type
    ++ several_in (field_path kind.Program program.place (codes "programTrackedEntityAttributes")) (codes "trackedEntityAttribute") kind.TrackedEntityAttribute
    program.program_tracked_entity_attributes
    ++ sharing_references kind.Program program.place program.sharing

unfoldable pub stage_references : RawStage → List Reference
stage_references stage =
    one (field_path kind.ProgramStage stage.place (codes "program")) kind.Program stage.program
    ++ several_in (field_path kind.ProgramStage stage.place (codes "programStageDataElements")) (codes "dataElement") kind.DataElement
    stage.program_stage_data_elements

unfoldable pub program_indicator_references : RawProgramIndicator → List Reference
program_indicator_references program_indicator =
    one (field_path kind.ProgramIndicator program_indicator.place (codes "program")) kind.Program program_indicator.program
    ++ sharing_references kind.ProgramIndicator program_indicator.place program_indicator.sharing

unfoldable pub role_references : RawRole → List Reference
role_references role = []

unfoldable pub user_references : RawUser → List Reference
user_references user =
    several (field_path kind.User user.place (codes "organisationUnits")) kind.OrganisationUnit user.organisation_units
    ++ several (field_path kind.User user.place (codes "dataViewOrganisationUnits")) kind.OrganisationUnit user.data_view_organisation_units
    ++ several (field_path kind.User user.place (codes "userRoles")) kind.UserRole user.user_roles

unfoldable pub user_group_references : RawUserGroup → List Reference
user_group_references user_group = several (field_path kind.UserGroup user_group.place (codes "users")) kind.User user_group.users

-- the references of all objects of a kind, in the order of the file
abbrev pub references_in : MetaParts → Kind → List Reference
references_in parts kind.OrganisationUnit = flat_map unit_references parts.organisation_units
references_in parts kind.OrganisationUnitGroup = flat_map unit_group_references parts.organisation_unit_groups
references_in parts kind.CategoryOption = flat_map category_option_references parts.category_options
references_in parts kind.Category = flat_map category_references parts.categories
references_in parts kind.CategoryCombo = flat_map category_combo_references parts.category_combos
references_in parts kind.CategoryOptionCombo = flat_map option_combo_references parts.category_option_combos
references_in parts kind.DataElement = flat_map element_references parts.data_elements
references_in parts kind.ApprovalLevel = flat_map approval_level_references parts.data_approval_levels
references_in parts kind.Workflow = flat_map workflow_references parts.data_approval_workflows
references_in parts kind.DataSet = flat_map data_set_references parts.data_sets
references_in parts kind.Constant = flat_map constant_references parts.constants
references_in parts kind.IndicatorType = flat_map indicator_type_references parts.indicator_types
references_in parts kind.Indicator = flat_map indicator_references parts.indicators
references_in parts kind.ValidationRule = flat_map rule_references parts.validation_rules
references_in parts kind.TrackedEntityType = flat_map entity_type_references parts.tracked_entity_types
references_in parts kind.TrackedEntityAttribute = flat_map attribute_references parts.tracked_entity_attributes
references_in parts kind.Program = flat_map program_references parts.programs
references_in parts kind.ProgramStage = flat_map stage_references parts.program_stages
references_in parts kind.ProgramIndicator = flat_map program_indicator_references parts.program_indicators
references_in parts kind.UserRole = flat_map role_references parts.user_roles
references_in parts kind.User = flat_map user_references parts.users
references_in parts kind.UserGroup = flat_map user_group_references parts.user_groups

-- the users of the tokens
unfoldable pub token_references : List (List ℕ × List ℕ) → List Reference
token_references tokens = each (λ place token. one (step (step (codes "apiTokens") (decimal place)) (codes "user")) kind.User token.1) 0 tokens

-- all references, kind by kind, and those of the tokens last
unfoldable pub references : MetaParts → List Reference
references parts = flat_map (references_in parts) kinds ++ token_references parts.api_tokens
