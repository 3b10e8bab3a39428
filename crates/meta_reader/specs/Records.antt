-- What metadata has of a file.
use Rattle.dh_metadata.specs.declared.parts.MetaParts.{MetaParts}
use Rattle.dh_metadata.specs.declared.held.Links.{Links}
use Rattle.dh_metadata.specs.declared.held.Records.{Records}
use Rattle.meta_rules.specs.declared.all.Unread.{Unread}
use Rattle.meta_rules.specs.declared.all.Expressions.{Expressions}
use Rattle.meta_rules.specs.All.{expressions_of}
use Rattle.meta_rules.specs.Read.{Meaning}
use Rattle.dh_metadata.specs.Ids.{ids_of}
use Rattle.meta_links.specs.Held.{links_of}

-- the references of the objects with expressions
abbrev pub unread_of : Links → Unread
unread_of links = record {
  indicators = links.indicators;
  validation_rules = links.validation_rules;
  program_indicators = links.program_indicators;
}

-- the objects that were linked, with those that have expressions
abbrev pub records_of : MetaParts → Links → Expressions → Records
records_of parts links made = record {
  organisation_units = links.organisation_units;
  organisation_unit_groups = links.organisation_unit_groups;
  category_options = links.category_options;
  categories = links.categories;
  category_combos = links.category_combos;
  category_option_combos = links.category_option_combos;
  data_elements = links.data_elements;
  data_approval_levels = links.data_approval_levels;
  data_approval_workflows = links.data_approval_workflows;
  data_sets = links.data_sets;
  constants = links.constants;
  indicator_types = links.indicator_types;
  indicators = made.indicators;
  validation_rules = made.validation_rules;
  tracked_entity_types = links.tracked_entity_types;
  tracked_entity_attributes = links.tracked_entity_attributes;
  programs = links.programs;
  program_stages = links.program_stages;
  program_indicators = made.program_indicators;
  user_roles = links.user_roles;
  users = links.users;
  user_groups = links.user_groups;
  api_tokens = links.api_tokens;
  acceptance_required = parts.acceptance_required;
}

-- the objects of a file with their references as numbers
abbrev pub links_in : MetaParts → Links
links_in parts = links_of (ids_of parts) parts

-- objects that were linked, with the expressions of the file
abbrev pub records_from : Meaning → MetaParts → Links → Records
records_from meaning parts links = records_of parts links (expressions_of meaning parts (unread_of links))

-- what metadata has of a file: its objects, each reference a number and each text an expression, with its tokens and
-- whether an approval has to be accepted
abbrev pub records_in : Meaning → MetaParts → Records
records_in meaning parts = records_from meaning parts (links_in parts)
