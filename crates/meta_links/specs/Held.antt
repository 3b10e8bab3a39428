-- The objects of a metadata file as they are held: each reference is the number of the object that it names.
use Rattle.std.specs.Prelude.{ℕ, List, [], ◌∷◌, map, option_map}
use lib.Chars.{codes}
use Rattle.dh_sharing.specs.declared.access.Access.{Access}
use Rattle.dh_sharing.specs.declared.rule.Sharing.{Sharing}
use Rattle.dh_metadata.specs.declared.raw.RawUnit.{RawUnit}
use Rattle.dh_metadata.specs.declared.raw.RawUnitGroup.{RawUnitGroup}
use Rattle.dh_metadata.specs.declared.raw.RawCategoryOption.{RawCategoryOption}
use Rattle.dh_metadata.specs.declared.raw.RawCategory.{RawCategory}
use Rattle.dh_metadata.specs.declared.raw.RawCategoryCombo.{RawCategoryCombo}
use Rattle.dh_metadata.specs.declared.raw.RawOptionCombo.{RawOptionCombo}
use Rattle.dh_metadata.specs.declared.raw.RawElement.{RawElement}
use Rattle.dh_metadata.specs.declared.raw.RawApprovalLevel.{RawApprovalLevel}
use Rattle.dh_metadata.specs.declared.raw.RawWorkflow.{RawWorkflow}
use Rattle.dh_metadata.specs.declared.raw.RawDataSet.{RawDataSet}
use Rattle.dh_metadata.specs.declared.raw.RawConstant.{RawConstant}
use Rattle.dh_metadata.specs.declared.raw.RawIndicatorType.{RawIndicatorType}
use Rattle.dh_metadata.specs.declared.raw.RawIndicator.{RawIndicator}
use Rattle.dh_metadata.specs.declared.raw.RawRule.{RawRule}
use Rattle.dh_metadata.specs.declared.raw.RawEntityType.{RawEntityType}
use Rattle.dh_metadata.specs.declared.raw.RawAttribute.{RawAttribute}
use Rattle.dh_metadata.specs.declared.raw.RawProgram.{RawProgram}
use Rattle.dh_metadata.specs.declared.raw.RawStage.{RawStage}
use Rattle.dh_metadata.specs.declared.raw.RawProgramIndicator.{RawProgramIndicator}
use Rattle.dh_metadata.specs.declared.raw.RawRole.{RawRole}
use Rattle.dh_metadata.specs.declared.raw.RawUser.{RawUser}
use Rattle.dh_metadata.specs.declared.raw.RawUserGroup.{RawUserGroup}
use Rattle.dh_metadata.specs.declared.raw.RawSharing.{RawSharing}
use Rattle.dh_metadata.specs.declared.records.Unit.{Unit}
use Rattle.dh_metadata.specs.declared.records.UnitGroup.{UnitGroup}
use Rattle.dh_metadata.specs.declared.records.CategoryOption.{CategoryOption}
use Rattle.dh_metadata.specs.declared.records.Category.{Category}
use Rattle.dh_metadata.specs.declared.records.CategoryCombo.{CategoryCombo}
use Rattle.dh_metadata.specs.declared.records.OptionCombo.{OptionCombo}
use Rattle.dh_metadata.specs.declared.records.Element.{Element}
use Rattle.dh_metadata.specs.declared.records.ApprovalLevel.{ApprovalLevel}
use Rattle.dh_metadata.specs.declared.records.Workflow.{Workflow}
use Rattle.dh_metadata.specs.declared.records.DataSet.{DataSet}
use Rattle.dh_metadata.specs.declared.records.Constant.{Constant}
use Rattle.dh_metadata.specs.declared.records.IndicatorType.{IndicatorType}
use Rattle.dh_metadata.specs.declared.records.IndicatorLinks.{IndicatorLinks}
use Rattle.dh_metadata.specs.declared.records.EntityType.{EntityType}
use Rattle.dh_metadata.specs.declared.records.Attribute.{Attribute}
use Rattle.dh_metadata.specs.declared.records.Program.{Program}
use Rattle.dh_metadata.specs.declared.records.Stage.{Stage}
use Rattle.dh_metadata.specs.declared.records.ProgramIndicatorLinks.{ProgramIndicatorLinks}
use Rattle.dh_metadata.specs.declared.records.Role.{Role}
use Rattle.dh_metadata.specs.declared.records.User.{User}
use Rattle.dh_metadata.specs.declared.records.UserGroup.{UserGroup}
use Rattle.dh_metadata.specs.BuiltIn.{default_combo, default_option_combo}
use Rattle.dh_metadata.specs.declared.parts.MetaParts.{MetaParts}
use Rattle.dh_metadata.specs.declared.held.Links.{Links}
use Rattle.dh_metadata.specs.declared.kind.Kind.{Kind}
use Rattle.dh_metadata.specs.declared.kind.Kind.TheVariants as kind
use Rattle.meta_links.specs.Reference.{number_of}

-- the numbers of several objects of one kind
abbrev pub numbers_of : List (List (List ℕ)) → Kind → List (List ℕ) → List ℕ
numbers_of ids of_kind uids = map (number_of ids of_kind) uids

abbrev pub shared_with : List (List (List ℕ)) → Kind → List (List ℕ × List ℕ × Access) → List (ℕ × Access)
shared_with ids of_kind shared = map (λ entry. (number_of ids of_kind entry.1, entry.2)) shared

unfoldable pub sharing_held : List (List (List ℕ)) → RawSharing → Sharing
sharing_held ids sharing = record {
  owner = option_map (number_of ids kind.User) sharing.owner;
  public = sharing.public;
  users = shared_with ids kind.User sharing.users;
  groups = shared_with ids kind.UserGroup sharing.groups;
}

unfoldable pub unit_held : List (List (List ℕ)) → RawUnit → Unit
unit_held ids unit = record {
  id = unit.id;
  name = unit.name;
  parent = option_map (number_of ids kind.OrganisationUnit) unit.parent;
}

unfoldable pub unit_group_held : List (List (List ℕ)) → RawUnitGroup → UnitGroup
unit_group_held ids unit_group = record {
  id = unit_group.id;
  name = unit_group.name;
  organisation_units = numbers_of ids kind.OrganisationUnit unit_group.organisation_units;
}

unfoldable pub category_option_held : List (List (List ℕ)) → RawCategoryOption → CategoryOption
category_option_held ids category_option = record {
  id = category_option.id;
  name = category_option.name;
  sharing = sharing_held ids category_option.sharing;
}

unfoldable pub category_held : List (List (List ℕ)) → RawCategory → Category
category_held ids category = record {
  id = category.id;
  name = category.name;
  category_options = numbers_of ids kind.CategoryOption category.category_options;
}

unfoldable pub category_combo_held : List (List (List ℕ)) → RawCategoryCombo → CategoryCombo
category_combo_held ids category_combo = record {
  id = category_combo.id;
  name = category_combo.name;
  categories = numbers_of ids kind.Category category_combo.categories;
}

unfoldable pub option_combo_held : List (List (List ℕ)) → RawOptionCombo → OptionCombo
option_combo_held ids option_combo = record {
  id = option_combo.id;
  name = option_combo.name;
  category_combo = number_of ids kind.CategoryCombo option_combo.category_combo;
  category_options = numbers_of ids kind.CategoryOption option_combo.category_options;
}

unfoldable pub element_held : List (List (List ℕ)) → RawElement → Element
element_held ids element = record {
  id = element.id;
  name = element.name;
  value_type = element.value_type;
  aggregation_type = element.aggregation_type;
  category_combo = number_of ids kind.CategoryCombo element.category_combo;
  zero_is_significant = element.zero_is_significant;
  sharing = sharing_held ids element.sharing;
}

unfoldable pub approval_level_held : List (List (List ℕ)) → RawApprovalLevel → ApprovalLevel
approval_level_held ids approval_level = record {
  id = approval_level.id;
  name = approval_level.name;
  level = approval_level.level;
  org_unit_level = approval_level.org_unit_level;
}

unfoldable pub workflow_held : List (List (List ℕ)) → RawWorkflow → Workflow
workflow_held ids workflow = record {
  id = workflow.id;
  name = workflow.name;
  period_type = workflow.period_type;
  data_approval_levels = numbers_of ids kind.ApprovalLevel workflow.data_approval_levels;
}

unfoldable pub data_set_held : List (List (List ℕ)) → RawDataSet → DataSet
data_set_held ids data_set = record {
  id = data_set.id;
  name = data_set.name;
  period_type = data_set.period_type;
  data_set_elements = map (λ element. number_of ids kind.DataElement element.0) data_set.data_set_elements;
  organisation_units = numbers_of ids kind.OrganisationUnit data_set.organisation_units;
  category_combo = number_of ids kind.CategoryCombo data_set.category_combo;
  workflow = option_map (number_of ids kind.Workflow) data_set.workflow;
  open_future_periods = data_set.open_future_periods;
  expiry_days = data_set.expiry_days;
  timely_days = data_set.timely_days;
  sharing = sharing_held ids data_set.sharing;
}

unfoldable pub constant_held : List (List (List ℕ)) → RawConstant → Constant
constant_held ids constant = record {
  id = constant.id;
  name = constant.name;
  value = constant.value;
}

unfoldable pub indicator_type_held : List (List (List ℕ)) → RawIndicatorType → IndicatorType
indicator_type_held ids indicator_type = record {
  id = indicator_type.id;
  name = indicator_type.name;
  factor = indicator_type.factor;
}

unfoldable pub indicator_held : List (List (List ℕ)) → RawIndicator → IndicatorLinks
indicator_held ids indicator = record {
  indicator_type = number_of ids kind.IndicatorType indicator.indicator_type;
  sharing = sharing_held ids indicator.sharing;
}

unfoldable pub rule_held : List (List (List ℕ)) → RawRule → Sharing
rule_held ids rule = sharing_held ids rule.sharing

unfoldable pub entity_type_held : List (List (List ℕ)) → RawEntityType → EntityType
entity_type_held ids entity_type = record {
  id = entity_type.id;
  name = entity_type.name;
  sharing = sharing_held ids entity_type.sharing;
}

unfoldable pub attribute_held : List (List (List ℕ)) → RawAttribute → Attribute
attribute_held ids attribute = record {
  id = attribute.id;
  name = attribute.name;
  value_type = attribute.value_type;
}

unfoldable pub program_held : List (List (List ℕ)) → RawProgram → Program
program_held ids program = record {
  id = program.id;
  name = program.name;
  program_type = program.program_type;
  tracked_entity_type = option_map (number_of ids kind.TrackedEntityType) program.tracked_entity_type;
  program_tracked_entity_attributes = numbers_of ids kind.TrackedEntityAttribute program.program_tracked_entity_attributes;
  sharing = sharing_held ids program.sharing;
}

unfoldable pub stage_held : List (List (List ℕ)) → RawStage → Stage
stage_held ids stage = record {
  id = stage.id;
  name = stage.name;
  program = number_of ids kind.Program stage.program;
  program_stage_data_elements = numbers_of ids kind.DataElement stage.program_stage_data_elements;
}

unfoldable pub program_indicator_held : List (List (List ℕ)) → RawProgramIndicator → ProgramIndicatorLinks
program_indicator_held ids program_indicator = record {
  program = number_of ids kind.Program program_indicator.program;
  sharing = sharing_held ids program_indicator.sharing;
}

unfoldable pub role_held : List (List (List ℕ)) → RawRole → Role
role_held ids role = record {
  id = role.id;
  name = role.name;
  authorities = role.authorities;
}

unfoldable pub user_held : List (List (List ℕ)) → RawUser → User
user_held ids user = record {
  id = user.id;
  name = user.name;
  organisation_units = numbers_of ids kind.OrganisationUnit user.organisation_units;
  data_view_organisation_units = numbers_of ids kind.OrganisationUnit user.data_view_organisation_units;
  user_roles = numbers_of ids kind.UserRole user.user_roles;
}

unfoldable pub user_group_held : List (List (List ℕ)) → RawUserGroup → UserGroup
user_group_held ids user_group = record {
  id = user_group.id;
  name = user_group.name;
  users = numbers_of ids kind.User user_group.users;
}

-- the default combination has no categories, and its one option combination has no options
unfoldable pub built_in_combo : CategoryCombo
built_in_combo = record { id = default_combo; name = codes "default"; categories = [] }

unfoldable pub built_in_option_combo : OptionCombo
built_in_option_combo = record { id = default_option_combo; name = codes "default"; category_combo = 0; category_options = [] }

-- all objects, the built-in ones before those of their kind
unfoldable pub links_of : List (List (List ℕ)) → MetaParts → Links
links_of ids parts = record {
  organisation_units = map (unit_held ids) parts.organisation_units;
  organisation_unit_groups = map (unit_group_held ids) parts.organisation_unit_groups;
  category_options = map (category_option_held ids) parts.category_options;
  categories = map (category_held ids) parts.categories;
  category_combos = built_in_combo ∷ map (category_combo_held ids) parts.category_combos;
  category_option_combos = built_in_option_combo ∷ map (option_combo_held ids) parts.category_option_combos;
  data_elements = map (element_held ids) parts.data_elements;
  data_approval_levels = map (approval_level_held ids) parts.data_approval_levels;
  data_approval_workflows = map (workflow_held ids) parts.data_approval_workflows;
  data_sets = map (data_set_held ids) parts.data_sets;
  constants = map (constant_held ids) parts.constants;
  indicator_types = map (indicator_type_held ids) parts.indicator_types;
  indicators = map (indicator_held ids) parts.indicators;
  validation_rules = map (rule_held ids) parts.validation_rules;
  tracked_entity_types = map (entity_type_held ids) parts.tracked_entity_types;
  tracked_entity_attributes = map (attribute_held ids) parts.tracked_entity_attributes;
  programs = map (program_held ids) parts.programs;
  program_stages = map (stage_held ids) parts.program_stages;
  program_indicators = map (program_indicator_held ids) parts.program_indicators;
  user_roles = map (role_held ids) parts.user_roles;
  users = map (user_held ids) parts.users;
  user_groups = map (user_group_held ids) parts.user_groups;
  api_tokens = map (λ token. (token.0, number_of ids kind.User token.1)) parts.api_tokens;
}
