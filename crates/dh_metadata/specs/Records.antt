-- The objects as they are held, of those that are linked and those whose expressions were read.
use Rattle.std.specs.Prelude.{List, Bool}
use Rattle.dh_metadata.specs.declared.held.Links.{Links}
use Rattle.dh_metadata.specs.declared.held.Records.{Records}
use Rattle.dh_metadata.specs.declared.records.Indicator.{Indicator}
use Rattle.dh_metadata.specs.declared.records.Rule.{Rule}
use Rattle.dh_metadata.specs.declared.records.ProgramIndicator.{ProgramIndicator}

abbrev pub held_with : Links → List Indicator → List Rule → List ProgramIndicator → Bool → Records
held_with links indicators validation_rules program_indicators acceptance_required = record {
  organisation_units = links.organisation_units;
  organisation_unit_groups = links.organisation_unit_groups;
  category_options = links.category_options;
  categories = links.categories;
  category_combos = links.category_combos;
  category_option_combos = links.category_option_combos;
  data_elements = links.data_elements;
  data_approval_levels = links.data_approval_levels;
  data_approval_workflows = links.data_approval_workflows;
  data_sets = links.data_sets;
  constants = links.constants;
  indicator_types = links.indicator_types;
  indicators = indicators;
  validation_rules = validation_rules;
  tracked_entity_types = links.tracked_entity_types;
  tracked_entity_attributes = links.tracked_entity_attributes;
  programs = links.programs;
  program_stages = links.program_stages;
  program_indicators = program_indicators;
  user_roles = links.user_roles;
  users = links.users;
  user_groups = links.user_groups;
  api_tokens = links.api_tokens;
  acceptance_required = acceptance_required;
}
