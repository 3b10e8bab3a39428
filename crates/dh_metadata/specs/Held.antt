-- What metadata keeps beside its records.
use Rattle.std.specs.Prelude.{◌≡◌, ◌≤◌, length, map}
use Rattle.dh_metadata.specs.declared.metadata.Metadata.TheInside.{Inside}
use Rattle.dh_metadata.specs.Approval.{unit_rows, option_combo_rows, levels_in}
use Rattle.dh_metadata.specs.Linked.{Each, IsLinked}
use Rattle.dh_metadata.specs.Members.{AreHolders, AreSortedCopies}
use Rattle.dh_metadata.specs.Objects.{HaveIds}
use Rattle.dh_metadata.specs.Sets.{element_lists, unit_lists, set_ids, by_id}
use Rattle.dh_metadata.specs.Users.{AreTokens, AreFacts}
use Rattle.dh_metadata.specs.Workflows.{AreWorkflows}

-- each reference names an object, and each list has for each object what its name says
pub record IsHeld (meta : Inside) : Type 0 where
  pub linked : IsLinked meta.records
  pub ids : HaveIds meta.records meta.ids
  pub tree : meta.tree ≡ unit_rows meta.records
  pub combos : meta.combos ≡ option_combo_rows meta.records
  pub workflows : AreWorkflows meta.records.data_sets (length meta.records.data_elements) meta.workflows.items
  pub levels : meta.levels.items ≡ map (levels_in meta.records) meta.records.data_approval_workflows
  pub few_levels : Each (λ levels. length levels ≤ 8) meta.levels.items
  pub set_elements : AreSortedCopies (element_lists meta.records.data_sets) meta.set_elements.items
  pub set_units : AreSortedCopies (unit_lists meta.records.data_sets) meta.set_units.items
  pub sets_with : AreHolders (element_lists meta.records.data_sets) (by_id (set_ids meta.records.data_sets)) (length meta.records.data_elements)
      meta.sets_with.items
  pub facts : AreFacts meta.records meta.facts.items
  pub tokens : AreTokens meta.records.api_tokens meta.tokens
