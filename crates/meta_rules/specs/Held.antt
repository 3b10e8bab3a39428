-- The rules between objects in their order, and what is handed on where they are kept.
use Rattle.std.specs.Prelude.{◌≡◌, ℕ, ℤ, List, map, length, Option}
use Rattle.std.specs.Option.{option_or}
use Rattle.dh_metadata.specs.declared.parts.MetaParts.{MetaParts}
use Rattle.dh_metadata.specs.declared.held.Links.{Links}
use Rattle.dh_metadata.specs.declared.structure.Structure.{Structure}
use Rattle.meta_rules.specs.declared.fault.RuleFault.{RuleFault}
use Rattle.meta_rules.specs.Trees.{tree_broken}
use Rattle.dh_metadata.specs.Rows.{tree_rows, option_combo_rows}
use Rattle.meta_rules.specs.Categories.{combo_broken}
use Rattle.dh_metadata.specs.Workflows.{AreWorkflows}
use Rattle.meta_rules.specs.Workflows.{workflow_broken}
use Rattle.dh_metadata.specs.Positions.{positions_of}
use Rattle.meta_rules.specs.Levels.{levels_broken}
use Rattle.meta_rules.specs.Overrides.{override_broken}

-- an element of two workflows, else levels that don't fit, else another combination than the element's
abbrev pub approvals_broken : MetaParts → Links → Option RuleFault
approvals_broken parts links =
    option_or (workflow_broken links.data_elements links.data_sets)
    (option_or (levels_broken links.data_approval_levels links.data_approval_workflows)
    (override_broken parts.data_elements parts.data_sets links.data_sets))

-- the first rule that is broken
abbrev pub rules_broken : MetaParts → Links → Option RuleFault
rules_broken parts links =
    option_or (tree_broken links.organisation_units)
    (option_or (combo_broken links.categories links.category_combos links.category_option_combos) (approvals_broken parts links))

-- each element's workflow, and each workflow's positions
pub record AreApprovals (links : Links) (of_elements : List (Option ℕ)) (of_workflows : List (List ℤ)) : Type 0 where
  pub workflows : AreWorkflows links.data_sets (length links.data_elements) of_elements
  pub positions : of_workflows ≡ map (positions_of links.data_approval_levels) links.data_approval_workflows

-- the units as a tree, the option combinations, each element's workflow, each workflow's positions
pub record IsHeld (links : Links) (held : Structure) : Type 0 where
  pub tree : held.tree ≡ tree_rows links.organisation_units
  pub combos : held.combos ≡ option_combo_rows links.category_option_combos
  pub approvals : AreApprovals links held.workflows.items held.positions.items
