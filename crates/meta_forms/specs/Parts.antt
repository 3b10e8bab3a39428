-- All that a metadata file says: its keys in their order, an absent one without objects.
use Rattle.std.specs.Prelude.{ℕ, Bool, List, codes, Ok}
use Rattle.serde_json.specs.Data.{Data}
use Rattle.json_read.specs.Forms.{Formed, and_then, object_of}
use Rattle.dh_metadata.specs.declared.parts.MetaParts.{MetaParts}
use Rattle.meta_forms.specs.Both.{◌⊗◌}
use Rattle.meta_forms.specs.Objects.{objects_at}
use Rattle.meta_forms.specs.Entries.{tokens_of, acceptance_of}
use Rattle.meta_forms.specs.Table.{unit_of, unit_group_of, category_option_of, category_of, category_combo_of, option_combo_of, element_of}
use Rattle.meta_forms.specs.Table.{approval_level_of, workflow_of, data_set_of, constant_object_of, indicator_type_of, indicator_of, rule_of, entity_type_of}
use Rattle.meta_forms.specs.Table.{tracked_attribute_of, program_of, stage_of, program_indicator_of, role_of, user_of, user_group_of}
use Rattle.dh_metadata.specs.declared.raw.RawUnit.{RawUnit}
use Rattle.dh_metadata.specs.declared.raw.RawUnitGroup.{RawUnitGroup}
use Rattle.dh_metadata.specs.declared.raw.RawCategoryOption.{RawCategoryOption}
use Rattle.dh_metadata.specs.declared.raw.RawCategory.{RawCategory}
use Rattle.dh_metadata.specs.declared.raw.RawCategoryCombo.{RawCategoryCombo}
use Rattle.dh_metadata.specs.declared.raw.RawOptionCombo.{RawOptionCombo}
use Rattle.dh_metadata.specs.declared.raw.RawElement.{RawElement}
use Rattle.dh_metadata.specs.declared.raw.RawApprovalLevel.{RawApprovalLevel}
use Rattle.dh_metadata.specs.declared.raw.RawWorkflow.{RawWorkflow}
use Rattle.dh_metadata.specs.declared.raw.RawDataSet.{RawDataSet}
use Rattle.dh_metadata.specs.declared.raw.RawConstant.{RawConstant}
use Rattle.dh_metadata.specs.declared.raw.RawIndicatorType.{RawIndicatorType}
use Rattle.dh_metadata.specs.declared.raw.RawIndicator.{RawIndicator}
use Rattle.dh_metadata.specs.declared.raw.RawRule.{RawRule}
use Rattle.dh_metadata.specs.declared.raw.RawEntityType.{RawEntityType}
use Rattle.dh_metadata.specs.declared.raw.RawAttribute.{RawAttribute}
use Rattle.dh_metadata.specs.declared.raw.RawProgram.{RawProgram}
use Rattle.dh_metadata.specs.declared.raw.RawStage.{RawStage}
use Rattle.dh_metadata.specs.declared.raw.RawProgramIndicator.{RawProgramIndicator}
use Rattle.dh_metadata.specs.declared.raw.RawRole.{RawRole}
use Rattle.dh_metadata.specs.declared.raw.RawUser.{RawUser}
use Rattle.dh_metadata.specs.declared.raw.RawUserGroup.{RawUserGroup}

-- the units, and what categories are made of
abbrev pub Hierarchy : Type 0
Hierarchy = List RawUnit × (List RawUnitGroup × (List RawCategoryOption × List RawCategory))

unfoldable pub hierarchy_of : Data → Formed Hierarchy
hierarchy_of json =
    objects_at (codes "organisationUnits") unit_of json
    ⊗ (objects_at (codes "organisationUnitGroups") unit_group_of json
    ⊗ (objects_at (codes "categoryOptions") category_option_of json
    ⊗ objects_at (codes "categories") category_of json))

-- combinations, data elements and approval levels
abbrev pub Elements : Type 0
Elements = List RawCategoryCombo × (List RawOptionCombo × (List RawElement × List RawApprovalLevel))

unfoldable pub elements_of : Data → Formed Elements
elements_of json =
    objects_at (codes "categoryCombos") category_combo_of json
    ⊗ (objects_at (codes "categoryOptionCombos") option_combo_of json
    ⊗ (objects_at (codes "dataElements") element_of json
    ⊗ objects_at (codes "dataApprovalLevels") approval_level_of json))

-- workflows, data sets, constants and indicator types
abbrev pub Sets : Type 0
Sets = List RawWorkflow × (List RawDataSet × (List RawConstant × List RawIndicatorType))

unfoldable pub sets_of : Data → Formed Sets
sets_of json =
    objects_at (codes "dataApprovalWorkflows") workflow_of json
    ⊗ (objects_at (codes "dataSets") data_set_of json
    ⊗ (objects_at (codes "constants") constant_object_of json
    ⊗ objects_at (codes "indicatorTypes") indicator_type_of json))

-- indicators, validation rules, and what tracked entities are made of
abbrev pub Indicators : Type 0
Indicators = List RawIndicator × (List RawRule × (List RawEntityType × List RawAttribute))

unfoldable pub indicators_of : Data → Formed Indicators
indicators_of json =
    objects_at (codes "indicators") indicator_of json
    ⊗ (objects_at (codes "validationRules") rule_of json
    ⊗ (objects_at (codes "trackedEntityTypes") entity_type_of json
    ⊗ objects_at (codes "trackedEntityAttributes") tracked_attribute_of json))

-- programs, their stages and indicators, and user roles
abbrev pub Programs : Type 0
Programs = List RawProgram × (List RawStage × (List RawProgramIndicator × List RawRole))

unfoldable pub programs_of : Data → Formed Programs
programs_of json =
    objects_at (codes "programs") program_of json
    ⊗ (objects_at (codes "programStages") stage_of json
    ⊗ (objects_at (codes "programIndicators") program_indicator_of json
    ⊗ objects_at (codes "userRoles") role_of json))

-- users, their groups and tokens, and the settings of the system
abbrev pub Users : Type 0
Users = List RawUser × (List RawUserGroup × (List (List ℕ × List ℕ) × Bool))

unfoldable pub users_of : Data → Formed Users
users_of json =
    objects_at (codes "users") user_of json
    ⊗ (objects_at (codes "userGroups") user_group_of json
    ⊗ (tokens_of json
    ⊗ acceptance_of json))

abbrev pub Groups : Type 0
Groups = Hierarchy × (Elements × (Sets × (Indicators × (Programs × Users))))

unfoldable pub groups_of : Data → Formed Groups
groups_of json = hierarchy_of json ⊗ (elements_of json ⊗ (sets_of json ⊗ (indicators_of json ⊗ (programs_of json ⊗ users_of json))))

abbrev pub joined : Groups → MetaParts
joined (
  (organisation_units, (organisation_unit_groups, (category_options, categories))),
  (
    (category_combos, (category_option_combos, (data_elements, data_approval_levels))),
    (
      (data_approval_workflows, (data_sets, (constants, indicator_types))),
      (
        (indicators, (validation_rules, (tracked_entity_types, tracked_entity_attributes))),
        (
          (programs, (program_stages, (program_indicators, user_roles))),
          (users, (user_groups, (api_tokens, acceptance_required))),
        ),
      ),
    ),
  ),
) = record {
  organisation_units = organisation_units;
  organisation_unit_groups = organisation_unit_groups;
  category_options = category_options;
  categories = categories;
  category_combos = category_combos;
  category_option_combos = category_option_combos;
  data_elements = data_elements;
  data_approval_levels = data_approval_levels;
  data_approval_workflows = data_approval_workflows;
  data_sets = data_sets;
  constants = constants;
  indicator_types = indicator_types;
  indicators = indicators;
  validation_rules = validation_rules;
  tracked_entity_types = tracked_entity_types;
  tracked_entity_attributes = tracked_entity_attributes;
  programs = programs;
  program_stages = program_stages;
  program_indicators = program_indicators;
  user_roles = user_roles;
  users = users;
  user_groups = user_groups;
  api_tokens = api_tokens;
  acceptance_required = acceptance_required;
}

-- what the file says whose data this is, or the path of the first place that is not in its form
unfoldable pub parts_of : Data → Formed MetaParts
parts_of = object_of (λ json. and_then (groups_of json) (λ groups. Ok (joined groups)))
