-- The objects of a metadata file: which fields are read of each kind, in their order, and with which defaults.
use Rattle.std.specs.Prelude.{ℕ, ℤ, pos, negsuc, Bool, false, List, Option, codes}
use Rattle.serde_json.specs.Data.{Data}
use Rattle.dh_base.specs.declared.plain.AggType.{AggType}
use Rattle.dh_base.specs.declared.plain.AggType.TheVariants as aggregation
use Rattle.dh_base.specs.declared.plain.Strategy.{Strategy}
use Rattle.dh_periods.specs.declared.kind.PeriodType.{PeriodType}
use Rattle.dh_periods.specs.Types.{type_named}
use Rattle.json_read.specs.Forms.{Formed, text_of, truth_of, field_of, field_or_of, optional_of, listed_of}
use Rattle.dh_metadata.specs.BuiltIn.{default_combo}
use Rattle.dh_metadata.specs.Names.{value_type_named, aggregation_named, operator_named, program_type_named, analytics_type_named}
use Rattle.dh_metadata.specs.declared.names.ValueType.{ValueType}
use Rattle.dh_metadata.specs.declared.names.ValueType.TheVariants as value_type
use Rattle.dh_metadata.specs.declared.names.AnalyticsType.{AnalyticsType}
use Rattle.dh_metadata.specs.declared.names.AnalyticsType.TheVariants as analytics
use Rattle.dh_metadata.specs.declared.names.Operator.{Operator}
use Rattle.dh_metadata.specs.declared.names.ProgramType.{ProgramType}
use Rattle.dh_metadata.specs.declared.raw.RawSharing.{RawSharing}
use Rattle.meta_forms.specs.declared.entry.ConstantValue.{ConstantValue}
use Rattle.meta_forms.specs.Both.{◌⊗◌}
use Rattle.meta_forms.specs.Objects.{named_form}
use Rattle.meta_forms.specs.Fields.{reference_at, reference_or_at, optional_reference_at, references_at, name_of_table, name_or_other, whole_of}
use Rattle.meta_forms.specs.Entries.{set_elements_of, attributes_of, stage_elements_of, side_of, constant_form}
use Rattle.meta_forms.specs.Sharing.{sharing_of}
use Rattle.dh_metadata.specs.declared.raw.RawUnit.{RawUnit}
use Rattle.dh_metadata.specs.declared.raw.RawUnitGroup.{RawUnitGroup}
use Rattle.dh_metadata.specs.declared.raw.RawCategoryOption.{RawCategoryOption}
use Rattle.dh_metadata.specs.declared.raw.RawCategory.{RawCategory}
use Rattle.dh_metadata.specs.declared.raw.RawCategoryCombo.{RawCategoryCombo}
use Rattle.dh_metadata.specs.declared.raw.RawOptionCombo.{RawOptionCombo}
use Rattle.dh_metadata.specs.declared.raw.RawElement.{RawElement}
use Rattle.dh_metadata.specs.declared.raw.RawApprovalLevel.{RawApprovalLevel}
use Rattle.dh_metadata.specs.declared.raw.RawWorkflow.{RawWorkflow}
use Rattle.dh_metadata.specs.declared.raw.RawDataSet.{RawDataSet}
use Rattle.dh_metadata.specs.declared.raw.RawConstant.{RawConstant}
use Rattle.dh_metadata.specs.declared.raw.RawIndicatorType.{RawIndicatorType}
use Rattle.dh_metadata.specs.declared.raw.RawIndicator.{RawIndicator}
use Rattle.dh_metadata.specs.declared.raw.RawRule.{RawRule}
use Rattle.dh_metadata.specs.declared.raw.RawEntityType.{RawEntityType}
use Rattle.dh_metadata.specs.declared.raw.RawAttribute.{RawAttribute}
use Rattle.dh_metadata.specs.declared.raw.RawProgram.{RawProgram}
use Rattle.dh_metadata.specs.declared.raw.RawStage.{RawStage}
use Rattle.dh_metadata.specs.declared.raw.RawProgramIndicator.{RawProgramIndicator}
use Rattle.dh_metadata.specs.declared.raw.RawRole.{RawRole}
use Rattle.dh_metadata.specs.declared.raw.RawUser.{RawUser}
use Rattle.dh_metadata.specs.declared.raw.RawUserGroup.{RawUserGroup}

-- organisationUnits: parent (none)
unfoldable pub unit_made : ℕ → List ℕ → List ℕ → Option (List ℕ) → RawUnit
unit_made place id name parent = record { place = place; id = id; name = name; parent = parent }

abbrev pub unit_of : ℕ → List ℕ → Data → Formed RawUnit
unit_of = named_form (optional_reference_at (codes "parent")) unit_made

-- organisationUnitGroups: organisationUnits
unfoldable pub unit_group_made : ℕ → List ℕ → List ℕ → List (List ℕ) → RawUnitGroup
unit_group_made place id name organisation_units = record { place = place; id = id; name = name; organisation_units = organisation_units }

abbrev pub unit_group_of : ℕ → List ℕ → Data → Formed RawUnitGroup
unit_group_of = named_form (references_at (codes "organisationUnits")) unit_group_made

-- categoryOptions: sharing
unfoldable pub category_option_made : ℕ → List ℕ → List ℕ → RawSharing → RawCategoryOption
category_option_made place id name sharing = record { place = place; id = id; name = name; sharing = sharing }

abbrev pub category_option_of : ℕ → List ℕ → Data → Formed RawCategoryOption
category_option_of = named_form sharing_of category_option_made

-- categories: categoryOptions
unfoldable pub category_made : ℕ → List ℕ → List ℕ → List (List ℕ) → RawCategory
category_made place id name category_options = record { place = place; id = id; name = name; category_options = category_options }

abbrev pub category_of : ℕ → List ℕ → Data → Formed RawCategory
category_of = named_form (references_at (codes "categoryOptions")) category_made

-- categoryCombos: categories
unfoldable pub category_combo_made : ℕ → List ℕ → List ℕ → List (List ℕ) → RawCategoryCombo
category_combo_made place id name categories = record { place = place; id = id; name = name; categories = categories }

abbrev pub category_combo_of : ℕ → List ℕ → Data → Formed RawCategoryCombo
category_combo_of = named_form (references_at (codes "categories")) category_combo_made

-- categoryOptionCombos: categoryCombo, categoryOptions
abbrev pub OptionComboFields : Type 0
OptionComboFields = List ℕ × List (List ℕ)

unfoldable pub option_combo_fields : Data → Formed OptionComboFields
option_combo_fields json =
    reference_at (codes "categoryCombo") json
    ⊗ references_at (codes "categoryOptions") json

unfoldable pub option_combo_made : ℕ → List ℕ → List ℕ → OptionComboFields → RawOptionCombo
option_combo_made place id name (category_combo, category_options) = record {
  place = place;
  id = id;
  name = name;
  category_combo = category_combo;
  category_options = category_options;
}

abbrev pub option_combo_of : ℕ → List ℕ → Data → Formed RawOptionCombo
option_combo_of = named_form option_combo_fields option_combo_made

-- dataElements: valueType (one that is not listed is TEXT), aggregationType (SUM; one that is not listed is NONE),
-- categoryCombo (the default one), zeroIsSignificant (false), sharing
abbrev pub ElementFields : Type 0
ElementFields = (((ValueType × AggType) × List ℕ) × Bool) × RawSharing

unfoldable pub element_fields : Data → Formed ElementFields
element_fields json =
    field_of (codes "valueType") (name_or_other value_type_named value_type.Text) json
    ⊗ field_or_of (codes "aggregationType") (name_or_other aggregation_named aggregation.None) aggregation.Sum json
    ⊗ reference_or_at (codes "categoryCombo") default_combo json
    ⊗ field_or_of (codes "zeroIsSignificant") truth_of false json
    ⊗ sharing_of json

unfoldable pub element_made : ℕ → List ℕ → List ℕ → ElementFields → RawElement
element_made place id name ((((value_type, aggregation_type), category_combo), zero_is_significant), sharing) = record {
  place = place;
  id = id;
  name = name;
  value_type = value_type;
  aggregation_type = aggregation_type;
  category_combo = category_combo;
  zero_is_significant = zero_is_significant;
  sharing = sharing;
}

abbrev pub element_of : ℕ → List ℕ → Data → Formed RawElement
element_of = named_form element_fields element_made

-- dataApprovalLevels: level from 1 to 1,000, orgUnitLevel from 1 to 12
abbrev pub ApprovalLevelFields : Type 0
ApprovalLevelFields = ℤ × ℤ

unfoldable pub approval_level_fields : Data → Formed ApprovalLevelFields
approval_level_fields json =
    field_of (codes "level") (whole_of (pos 1) (pos 1000)) json
    ⊗ field_of (codes "orgUnitLevel") (whole_of (pos 1) (pos 12)) json

unfoldable pub approval_level_made : ℕ → List ℕ → List ℕ → ApprovalLevelFields → RawApprovalLevel
approval_level_made place id name (level, org_unit_level) = record { place = place; id = id; name = name; level = level; org_unit_level = org_unit_level }

abbrev pub approval_level_of : ℕ → List ℕ → Data → Formed RawApprovalLevel
approval_level_of = named_form approval_level_fields approval_level_made

-- dataApprovalWorkflows: periodType, dataApprovalLevels
abbrev pub WorkflowFields : Type 0
WorkflowFields = PeriodType × List (List ℕ)

unfoldable pub workflow_fields : Data → Formed WorkflowFields
workflow_fields json =
    field_of (codes "periodType") (name_of_table type_named) json
    ⊗ references_at (codes "dataApprovalLevels") json

unfoldable pub workflow_made : ℕ → List ℕ → List ℕ → WorkflowFields → RawWorkflow
workflow_made place id name (period_type, data_approval_levels) = record {
  place = place;
  id = id;
  name = name;
  period_type = period_type;
  data_approval_levels = data_approval_levels;
}

abbrev pub workflow_of : ℕ → List ℕ → Data → Formed RawWorkflow
workflow_of = named_form workflow_fields workflow_made

-- dataSets: periodType, dataSetElements, organisationUnits, categoryCombo (the default one), workflow (none),
-- openFuturePeriods (0), expiryDays (0) and timelyDays (15), which are from 0 to 100,000, sharing
abbrev pub SetContent : Type 0
SetContent = ((PeriodType × List (List ℕ × Option (List ℕ))) × List (List ℕ)) × List ℕ

unfoldable pub set_content_of : Data → Formed SetContent
set_content_of json =
    field_of (codes "periodType") (name_of_table type_named) json
    ⊗ set_elements_of json
    ⊗ references_at (codes "organisationUnits") json
    ⊗ reference_or_at (codes "categoryCombo") default_combo json

abbrev pub SetRules : Type 0
SetRules = ((Option (List ℕ) × ℤ) × ℤ) × ℤ

unfoldable pub set_rules_of : Data → Formed SetRules
set_rules_of json =
    optional_reference_at (codes "workflow") json
    ⊗ field_or_of (codes "openFuturePeriods") (whole_of (pos 0) (pos 100000)) (pos 0) json
    ⊗ field_or_of (codes "expiryDays") (whole_of (pos 0) (pos 100000)) (pos 0) json
    ⊗ field_or_of (codes "timelyDays") (whole_of (pos 0) (pos 100000)) (pos 15) json

abbrev pub DataSetFields : Type 0
DataSetFields = (SetContent × SetRules) × RawSharing

unfoldable pub data_set_fields : Data → Formed DataSetFields
data_set_fields json =
    set_content_of json
    ⊗ set_rules_of json
    ⊗ sharing_of json

unfoldable pub data_set_made : ℕ → List ℕ → List ℕ → DataSetFields → RawDataSet
data_set_made place id name (
  (
    (((period_type, data_set_elements), organisation_units), category_combo),
    (((workflow, open_future_periods), expiry_days), timely_days),
  ),
  sharing,
) = record {
  place = place;
  id = id;
  name = name;
  period_type = period_type;
  data_set_elements = data_set_elements;
  organisation_units = organisation_units;
  category_combo = category_combo;
  workflow = workflow;
  open_future_periods = open_future_periods;
  expiry_days = expiry_days;
  timely_days = timely_days;
  sharing = sharing;
}

abbrev pub data_set_of : ℕ → List ℕ → Data → Formed RawDataSet
data_set_of = named_form data_set_fields data_set_made

-- constants: value
unfoldable pub constant_object_made : ℕ → List ℕ → List ℕ → ConstantValue → RawConstant
constant_object_made place id name constant = record { place = place; id = id; name = name; value = constant.value }

abbrev pub constant_object_of : ℕ → List ℕ → Data → Formed RawConstant
constant_object_of = named_form (field_of (codes "value") constant_form) constant_object_made

-- indicatorTypes: factor, from -1,000,000,000 to 1,000,000,000
unfoldable pub indicator_type_made : ℕ → List ℕ → List ℕ → ℤ → RawIndicatorType
indicator_type_made place id name factor = record { place = place; id = id; name = name; factor = factor }

abbrev pub indicator_type_of : ℕ → List ℕ → Data → Formed RawIndicatorType
indicator_type_of = named_form (field_of (codes "factor") (whole_of (negsuc 999999999) (pos 1000000000))) indicator_type_made

-- indicators: numerator, denominator, indicatorType, annualized (false), decimals from 0 to 5 (1), sharing
abbrev pub Ratio : Type 0
Ratio = ((List ℕ × List ℕ) × List ℕ) × Bool

unfoldable pub ratio_of : Data → Formed Ratio
ratio_of json =
    field_of (codes "numerator") text_of json
    ⊗ field_of (codes "denominator") text_of json
    ⊗ reference_at (codes "indicatorType") json
    ⊗ field_or_of (codes "annualized") truth_of false json

abbrev pub IndicatorFields : Type 0
IndicatorFields = (Ratio × ℤ) × RawSharing

unfoldable pub indicator_fields : Data → Formed IndicatorFields
indicator_fields json =
    ratio_of json
    ⊗ field_or_of (codes "decimals") (whole_of (pos 0) (pos 5)) (pos 1) json
    ⊗ sharing_of json

unfoldable pub indicator_made : ℕ → List ℕ → List ℕ → IndicatorFields → RawIndicator
indicator_made place id name (((((numerator, denominator), indicator_type), annualized), decimals), sharing) = record {
  place = place;
  id = id;
  name = name;
  numerator = numerator;
  denominator = denominator;
  indicator_type = indicator_type;
  annualized = annualized;
  decimals = decimals;
  sharing = sharing;
}

abbrev pub indicator_of : ℕ → List ℕ → Data → Formed RawIndicator
indicator_of = named_form indicator_fields indicator_made

-- validationRules: operator, periodType, leftSide, rightSide, sharing
abbrev pub RuleFields : Type 0
RuleFields = (((Operator × PeriodType) × (List ℕ × Strategy)) × (List ℕ × Strategy)) × RawSharing

unfoldable pub rule_fields : Data → Formed RuleFields
rule_fields json =
    field_of (codes "operator") (name_of_table operator_named) json
    ⊗ field_of (codes "periodType") (name_of_table type_named) json
    ⊗ side_of (codes "leftSide") json
    ⊗ side_of (codes "rightSide") json
    ⊗ sharing_of json

unfoldable pub rule_made : ℕ → List ℕ → List ℕ → RuleFields → RawRule
rule_made place id name ((((operator, period_type), left_side), right_side), sharing) = record {
  place = place;
  id = id;
  name = name;
  operator = operator;
  period_type = period_type;
  left_side = left_side;
  right_side = right_side;
  sharing = sharing;
}

abbrev pub rule_of : ℕ → List ℕ → Data → Formed RawRule
rule_of = named_form rule_fields rule_made

-- trackedEntityTypes: sharing
unfoldable pub entity_type_made : ℕ → List ℕ → List ℕ → RawSharing → RawEntityType
entity_type_made place id name sharing = record { place = place; id = id; name = name; sharing = sharing }

abbrev pub entity_type_of : ℕ → List ℕ → Data → Formed RawEntityType
entity_type_of = named_form sharing_of entity_type_made

-- trackedEntityAttributes: valueType (one that is not listed is TEXT)
unfoldable pub tracked_attribute_made : ℕ → List ℕ → List ℕ → ValueType → RawAttribute
tracked_attribute_made place id name value_type = record { place = place; id = id; name = name; value_type = value_type }

abbrev pub tracked_attribute_of : ℕ → List ℕ → Data → Formed RawAttribute
tracked_attribute_of = named_form (field_of (codes "valueType") (name_or_other value_type_named value_type.Text)) tracked_attribute_made

-- programs: programType, trackedEntityType (none), programTrackedEntityAttributes, sharing
abbrev pub ProgramFields : Type 0
ProgramFields = ((ProgramType × Option (List ℕ)) × List (List ℕ)) × RawSharing

unfoldable pub program_fields : Data → Formed ProgramFields
program_fields json =
    field_of (codes "programType") (name_of_table program_type_named) json
    ⊗ optional_reference_at (codes "trackedEntityType") json
    ⊗ attributes_of json
    ⊗ sharing_of json

unfoldable pub program_made : ℕ → List ℕ → List ℕ → ProgramFields → RawProgram
program_made place id name (((program_type, tracked_entity_type), program_tracked_entity_attributes), sharing) = record {
  place = place;
  id = id;
  name = name;
  program_type = program_type;
  tracked_entity_type = tracked_entity_type;
  program_tracked_entity_attributes = program_tracked_entity_attributes;
  sharing = sharing;
}

abbrev pub program_of : ℕ → List ℕ → Data → Formed RawProgram
program_of = named_form program_fields program_made

-- programStages: program, programStageDataElements
abbrev pub StageFields : Type 0
StageFields = List ℕ × List (List ℕ)

unfoldable pub stage_fields : Data → Formed StageFields
stage_fields json =
    reference_at (codes "program") json
    ⊗ stage_elements_of json

unfoldable pub stage_made : ℕ → List ℕ → List ℕ → StageFields → RawStage
stage_made place id name (program, program_stage_data_elements) = record {
  place = place;
  id = id;
  name = name;
  program = program;
  program_stage_data_elements = program_stage_data_elements;
}

abbrev pub stage_of : ℕ → List ℕ → Data → Formed RawStage
stage_of = named_form stage_fields stage_made

-- programIndicators: program, expression, filter (none), aggregationType (SUM), analyticsType (EVENT),
-- decimals from 0 to 5 (1), sharing
abbrev pub Formula : Type 0
Formula = (List ℕ × List ℕ) × Option (List ℕ)

unfoldable pub formula_of : Data → Formed Formula
formula_of json =
    reference_at (codes "program") json
    ⊗ field_of (codes "expression") text_of json
    ⊗ optional_of (codes "filter") text_of json

abbrev pub Figure : Type 0
Figure = (AggType × AnalyticsType) × ℤ

unfoldable pub figure_of : Data → Formed Figure
figure_of json =
    field_or_of (codes "aggregationType") (name_of_table aggregation_named) aggregation.Sum json
    ⊗ field_or_of (codes "analyticsType") (name_of_table analytics_type_named) analytics.Event json
    ⊗ field_or_of (codes "decimals") (whole_of (pos 0) (pos 5)) (pos 1) json

abbrev pub ProgramIndicatorFields : Type 0
ProgramIndicatorFields = (Formula × Figure) × RawSharing

unfoldable pub program_indicator_fields : Data → Formed ProgramIndicatorFields
program_indicator_fields json =
    formula_of json
    ⊗ figure_of json
    ⊗ sharing_of json

unfoldable pub program_indicator_made : ℕ → List ℕ → List ℕ → ProgramIndicatorFields → RawProgramIndicator
program_indicator_made place id name ((((program, expression), filter), ((aggregation_type, analytics_type), decimals)), sharing) = record {
  place = place;
  id = id;
  name = name;
  program = program;
  expression = expression;
  filter = filter;
  aggregation_type = aggregation_type;
  analytics_type = analytics_type;
  decimals = decimals;
  sharing = sharing;
}

abbrev pub program_indicator_of : ℕ → List ℕ → Data → Formed RawProgramIndicator
program_indicator_of = named_form program_indicator_fields program_indicator_made

-- userRoles: authorities
unfoldable pub role_made : ℕ → List ℕ → List ℕ → List (List ℕ) → RawRole
role_made place id name authorities = record { place = place; id = id; name = name; authorities = authorities }

abbrev pub role_of : ℕ → List ℕ → Data → Formed RawRole
role_of = named_form (listed_of (codes "authorities") text_of) role_made

-- users: organisationUnits, dataViewOrganisationUnits, userRoles
abbrev pub UserFields : Type 0
UserFields = (List (List ℕ) × List (List ℕ)) × List (List ℕ)

unfoldable pub user_fields : Data → Formed UserFields
user_fields json =
    references_at (codes "organisationUnits") json
    ⊗ references_at (codes "dataViewOrganisationUnits") json
    ⊗ references_at (codes "userRoles") json

unfoldable pub user_made : ℕ → List ℕ → List ℕ → UserFields → RawUser
user_made place id name ((organisation_units, data_view_organisation_units), user_roles) = record {
  place = place;
  id = id;
  name = name;
  organisation_units = organisation_units;
  data_view_organisation_units = data_view_organisation_units;
  user_roles = user_roles;
}

abbrev pub user_of : ℕ → List ℕ → Data → Formed RawUser
user_of = named_form user_fields user_made

-- userGroups: users
unfoldable pub user_group_made : ℕ → List ℕ → List ℕ → List (List ℕ) → RawUserGroup
user_group_made place id name users = record { place = place; id = id; name = name; users = users }

abbrev pub user_group_of : ℕ → List ℕ → Data → Formed RawUserGroup
user_group_of = named_form (references_at (codes "users")) user_group_made
