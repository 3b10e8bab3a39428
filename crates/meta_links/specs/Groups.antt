-- The lists of all kinds of objects as pairs, in the order of the kinds, and the tokens last.
use Rattle.std.specs.Prelude.{◌≡◌, ℕ, List, Result, Ok, Err}
use Rattle.dh_sharing.specs.declared.rule.Sharing.{Sharing}
use Rattle.dh_metadata.specs.declared.held.Links.{Links}
use Rattle.dh_metadata.specs.declared.records.Unit.{Unit}
use Rattle.dh_metadata.specs.declared.records.UnitGroup.{UnitGroup}
use Rattle.dh_metadata.specs.declared.records.CategoryOption.{CategoryOption}
use Rattle.dh_metadata.specs.declared.records.Category.{Category}
use Rattle.dh_metadata.specs.declared.records.CategoryCombo.{CategoryCombo}
use Rattle.dh_metadata.specs.declared.records.OptionCombo.{OptionCombo}
use Rattle.dh_metadata.specs.declared.records.Element.{Element}
use Rattle.dh_metadata.specs.declared.records.ApprovalLevel.{ApprovalLevel}
use Rattle.dh_metadata.specs.declared.records.Workflow.{Workflow}
use Rattle.dh_metadata.specs.declared.records.DataSet.{DataSet}
use Rattle.dh_metadata.specs.declared.records.Constant.{Constant}
use Rattle.dh_metadata.specs.declared.records.IndicatorType.{IndicatorType}
use Rattle.dh_metadata.specs.declared.records.IndicatorLinks.{IndicatorLinks}
use Rattle.dh_metadata.specs.declared.records.EntityType.{EntityType}
use Rattle.dh_metadata.specs.declared.records.Attribute.{Attribute}
use Rattle.dh_metadata.specs.declared.records.Program.{Program}
use Rattle.dh_metadata.specs.declared.records.Stage.{Stage}
use Rattle.dh_metadata.specs.declared.records.ProgramIndicatorLinks.{ProgramIndicatorLinks}
use Rattle.dh_metadata.specs.declared.records.Role.{Role}
use Rattle.dh_metadata.specs.declared.records.User.{User}
use Rattle.dh_metadata.specs.declared.records.UserGroup.{UserGroup}

abbrev pub Units : Type 0
Units = List Unit × (List UnitGroup × (List CategoryOption × List Category))

abbrev pub Combos : Type 0
Combos = List CategoryCombo × (List OptionCombo × (List Element × List ApprovalLevel))

abbrev pub Sets : Type 0
Sets = List Workflow × (List DataSet × (List Constant × List IndicatorType))

abbrev pub Rules : Type 0
Rules = List IndicatorLinks × (List Sharing × (List EntityType × List Attribute))

abbrev pub Programs : Type 0
Programs = List Program × (List Stage × List ProgramIndicatorLinks)

abbrev pub Users : Type 0
Users = List Role × (List User × List UserGroup)

abbrev pub Groups : Type 0
Groups = Units × (Combos × (Sets × (Rules × (Programs × (Users × List (List ℕ × ℕ))))))

-- all objects, from their lists
abbrev pub assembled : Groups → Links
assembled groups = record {
  organisation_units = groups.0.0;
  organisation_unit_groups = groups.0.1.0;
  category_options = groups.0.1.1.0;
  categories = groups.0.1.1.1;
  category_combos = groups.1.0.0;
  category_option_combos = groups.1.0.1.0;
  data_elements = groups.1.0.1.1.0;
  data_approval_levels = groups.1.0.1.1.1;
  data_approval_workflows = groups.1.1.0.0;
  data_sets = groups.1.1.0.1.0;
  constants = groups.1.1.0.1.1.0;
  indicator_types = groups.1.1.0.1.1.1;
  indicators = groups.1.1.1.0.0;
  validation_rules = groups.1.1.1.0.1.0;
  tracked_entity_types = groups.1.1.1.0.1.1.0;
  tracked_entity_attributes = groups.1.1.1.0.1.1.1;
  programs = groups.1.1.1.1.0.0;
  program_stages = groups.1.1.1.1.0.1.0;
  program_indicators = groups.1.1.1.1.0.1.1;
  user_roles = groups.1.1.1.1.1.0.0;
  users = groups.1.1.1.1.1.0.1.0;
  user_groups = groups.1.1.1.1.1.0.1.1;
  api_tokens = groups.1.1.1.1.1.1;
}

-- the objects of all kinds, if they were found
abbrev pub AreAssembled : {E : Type 0} → Result Groups E → Result Links E → Type 0
AreAssembled (Ok groups) result = result ≡ Ok (assembled groups)
AreAssembled (Err error) result = result ≡ Err error
