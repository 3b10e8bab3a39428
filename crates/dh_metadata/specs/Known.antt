-- What is known of records before they are asked.
use Rattle.std.specs.Prelude.{◌≡◌, ℤ, ◌<◌, ◌≤◌, ◌^◌, List, length, map}
use Rattle.dh_metadata.specs.declared.held.Records.{Records}
use Rattle.dh_metadata.specs.declared.kind.Kind.{Kind}
use Rattle.dh_metadata.specs.declared.structure.Structure.{Structure}
use Rattle.dh_metadata.specs.Positions.{positions_of}
use Rattle.dh_metadata.specs.Workflows.{AreWorkflows}
use Rattle.dh_metadata.specs.declared.made.Made.{Made}
use Rattle.dh_metadata.specs.declared.sets.SetLists.{SetLists}
use Rattle.dh_metadata.specs.Approval.{unit_rows, option_combo_rows, tree_level}
use Rattle.dh_metadata.specs.Linked.{Each}
use Rattle.dh_metadata.specs.Members.{AreHolders, AreSortedCopies}
use Rattle.dh_metadata.specs.Objects.{count_of}
use Rattle.dh_metadata.specs.Sets.{element_lists, unit_lists, set_ids, by_id}
use Rattle.dh_metadata.specs.Users.{AreTokens, AreFacts}

-- there are fewer than 2^32 objects of each kind
abbrev pub AreFew : Records → Type 0
AreFew r = (kind : Kind) → count_of r kind < 2 ^ 32

-- the rules hand on the tree of the units, the option combinations, the workflows of the elements, and the
-- positions of the workflows, which are at most eight
pub record HaveRules (r : Records) (held : Structure) : Type 0 where
  pub tree : held.tree ≡ unit_rows r
  pub combos : held.combos ≡ option_combo_rows r
  pub workflows : AreWorkflows r.data_sets (length r.data_elements) held.workflows.items
  pub positions : held.positions.items ≡ map (positions_of r.data_approval_levels) r.data_approval_workflows
  pub few_positions : Each (λ own. length own ≤ 8) held.positions.items

-- the elements and the units of data sets, and the data sets of elements
pub record AreSetLists (r : Records) (lists : SetLists) : Type 0 where
  pub elements : AreSortedCopies (element_lists r.data_sets) lists.elements.items
  pub units : AreSortedCopies (unit_lists r.data_sets) lists.units.items
  pub having : AreHolders (element_lists r.data_sets) (by_id (set_ids r.data_sets)) (length r.data_elements) lists.having.items

-- all that is looked up of records and of the positions of their workflows
pub record AreMade (r : Records) (positions : List (List ℤ)) (made : Made) : Type 0 where
  pub levels : made.levels.items ≡ map (map tree_level) positions
  pub lists : AreSetLists r made.lists
  pub facts : AreFacts r made.facts.items
  pub tokens : AreTokens r.api_tokens made.tokens
