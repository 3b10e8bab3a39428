-- References that name objects.
use Rattle.std.specs.Prelude.{◌≡◌, ℕ, ◌<◌, List, length, map, slice_get, slice_index_or, Option, Some, IfSome}
use Rattle.dh_sharing.specs.declared.rule.Sharing.{Sharing}
use Rattle.dh_metadata.specs.declared.held.Records.{Records}
use Rattle.dh_metadata.specs.declared.records.Unit.{Unit}
use Rattle.dh_metadata.specs.declared.records.UnitGroup.{UnitGroup}
use Rattle.dh_metadata.specs.declared.records.CategoryOption.{CategoryOption}
use Rattle.dh_metadata.specs.declared.records.Category.{Category}
use Rattle.dh_metadata.specs.declared.records.CategoryCombo.{CategoryCombo}
use Rattle.dh_metadata.specs.declared.records.OptionCombo.{OptionCombo}
use Rattle.dh_metadata.specs.declared.records.Element.{Element}
use Rattle.dh_metadata.specs.declared.records.Workflow.{Workflow}
use Rattle.dh_metadata.specs.declared.records.DataSet.{DataSet}
use Rattle.dh_metadata.specs.declared.records.Indicator.{Indicator}
use Rattle.dh_metadata.specs.declared.records.Rule.{Rule}
use Rattle.dh_metadata.specs.declared.records.EntityType.{EntityType}
use Rattle.dh_metadata.specs.declared.records.Program.{Program}
use Rattle.dh_metadata.specs.declared.records.Stage.{Stage}
use Rattle.dh_metadata.specs.declared.records.ProgramIndicator.{ProgramIndicator}
use Rattle.dh_metadata.specs.declared.records.User.{User}
use Rattle.dh_metadata.specs.declared.records.UserGroup.{UserGroup}

-- each number of a list is below the end
pub record AreBelow (end : ℕ) (numbers : List ℕ) : Type 0 where
  pub each : (k d : ℕ) → k < length numbers → slice_index_or numbers k d < end

-- a number that is there is below the end
abbrev pub IsBelow : ℕ → Option ℕ → Type 0
IsBelow end number = IfSome number (λ n. n < end)

-- so much holds of each object of a list
abbrev pub Each : {A : Type 0} → (A → Type 0) → List A → Type 0
Each {A} Holds objects = (n : ℕ) (object : A) → slice_get objects n ≡ Some object → Holds object

-- the owner and the users of entries are users, the groups of entries user groups
pub record IsLinkedSharing (r : Records) (sharing : Sharing) : Type 0 where
  pub owner : IsBelow (length r.users) sharing.owner
  pub users : AreBelow (length r.users) (map (λ entry. entry.0) sharing.users)
  pub groups : AreBelow (length r.user_groups) (map (λ entry. entry.0) sharing.groups)

abbrev pub IsLinkedUnit : Records → Unit → Type 0
IsLinkedUnit r object = IsBelow (length r.organisation_units) object.parent

abbrev pub IsLinkedUnitGroup : Records → UnitGroup → Type 0
IsLinkedUnitGroup r object = AreBelow (length r.organisation_units) object.organisation_units

abbrev pub IsLinkedOption : Records → CategoryOption → Type 0
IsLinkedOption r object = IsLinkedSharing r object.sharing

abbrev pub IsLinkedCategory : Records → Category → Type 0
IsLinkedCategory r object = AreBelow (length r.category_options) object.category_options

abbrev pub IsLinkedCombo : Records → CategoryCombo → Type 0
IsLinkedCombo r object = AreBelow (length r.categories) object.categories

pub record IsLinkedOptionCombo (r : Records) (object : OptionCombo) : Type 0 where
  pub combo : object.category_combo < length r.category_combos
  pub options : AreBelow (length r.category_options) object.category_options

pub record IsLinkedElement (r : Records) (object : Element) : Type 0 where
  pub combo : object.category_combo < length r.category_combos
  pub sharing : IsLinkedSharing r object.sharing

abbrev pub IsLinkedWorkflow : Records → Workflow → Type 0
IsLinkedWorkflow r object = AreBelow (length r.data_approval_levels) object.data_approval_levels

pub record IsLinkedDataSet (r : Records) (object : DataSet) : Type 0 where
  pub elements : AreBelow (length r.data_elements) object.data_set_elements
  pub units : AreBelow (length r.organisation_units) object.organisation_units
  pub combo : object.category_combo < length r.category_combos
  pub workflow : IsBelow (length r.data_approval_workflows) object.workflow
  pub sharing : IsLinkedSharing r object.sharing

pub record IsLinkedIndicator (r : Records) (object : Indicator) : Type 0 where
  pub indicator_type : object.indicator_type < length r.indicator_types
  pub sharing : IsLinkedSharing r object.sharing

abbrev pub IsLinkedRule : Records → Rule → Type 0
IsLinkedRule r object = IsLinkedSharing r object.sharing

abbrev pub IsLinkedEntityType : Records → EntityType → Type 0
IsLinkedEntityType r object = IsLinkedSharing r object.sharing

pub record IsLinkedProgram (r : Records) (object : Program) : Type 0 where
  pub entity_type : IsBelow (length r.tracked_entity_types) object.tracked_entity_type
  pub attributes : AreBelow (length r.tracked_entity_attributes) object.program_tracked_entity_attributes
  pub sharing : IsLinkedSharing r object.sharing

pub record IsLinkedStage (r : Records) (object : Stage) : Type 0 where
  pub program : object.program < length r.programs
  pub elements : AreBelow (length r.data_elements) object.program_stage_data_elements

pub record IsLinkedProgramIndicator (r : Records) (object : ProgramIndicator) : Type 0 where
  pub program : object.program < length r.programs
  pub sharing : IsLinkedSharing r object.sharing

pub record IsLinkedUser (r : Records) (object : User) : Type 0 where
  pub units : AreBelow (length r.organisation_units) object.organisation_units
  pub view_units : AreBelow (length r.organisation_units) object.data_view_organisation_units
  pub roles : AreBelow (length r.user_roles) object.user_roles

abbrev pub IsLinkedUserGroup : Records → UserGroup → Type 0
IsLinkedUserGroup r object = AreBelow (length r.users) object.users

-- each reference is the number of an object of its kind
pub record IsLinked (r : Records) : Type 0 where
  pub units : Each (IsLinkedUnit r) r.organisation_units
  pub unit_groups : Each (IsLinkedUnitGroup r) r.organisation_unit_groups
  pub options : Each (IsLinkedOption r) r.category_options
  pub categories : Each (IsLinkedCategory r) r.categories
  pub combos : Each (IsLinkedCombo r) r.category_combos
  pub option_combos : Each (IsLinkedOptionCombo r) r.category_option_combos
  pub elements : Each (IsLinkedElement r) r.data_elements
  pub workflows : Each (IsLinkedWorkflow r) r.data_approval_workflows
  pub data_sets : Each (IsLinkedDataSet r) r.data_sets
  pub indicators : Each (IsLinkedIndicator r) r.indicators
  pub rules : Each (IsLinkedRule r) r.validation_rules
  pub entity_types : Each (IsLinkedEntityType r) r.tracked_entity_types
  pub programs : Each (IsLinkedProgram r) r.programs
  pub stages : Each (IsLinkedStage r) r.program_stages
  pub program_indicators : Each (IsLinkedProgramIndicator r) r.program_indicators
  pub users : Each (IsLinkedUser r) r.users
  pub user_groups : Each (IsLinkedUserGroup r) r.user_groups
  pub tokens : AreBelow (length r.users) (map (λ token. token.1) r.api_tokens)
