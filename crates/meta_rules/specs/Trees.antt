-- The organisation units as a tree.
use Rattle.std.specs.Prelude.{ℕ, List, Option, None, option_map, slice_get}
use Rattle.org_tree.specs.Faults.{tree_fault}
use Rattle.org_tree.specs.declared.fault.TreeFault.{TreeFault}
use Rattle.org_tree.specs.declared.fault.TreeFault.TheVariants.{NoParent, NoRoot, TwoRoots, Loop, TooDeep, Memory}
use Rattle.dh_metadata.specs.declared.records.Unit.{Unit}
use Rattle.dh_metadata.specs.Rows.{tree_rows}
use Rattle.meta_rules.specs.declared.fault.BrokenRule.TheVariants as rule
use Rattle.meta_rules.specs.declared.fault.RuleFault.{RuleFault}
use Rattle.meta_rules.specs.declared.fault.RuleError.{RuleError}
use Rattle.meta_rules.specs.declared.fault.RuleError.TheVariants as error
use Rattle.meta_rules.specs.Faults.{breaks}

abbrev pub id_at : List Unit → ℕ → Option (List ℕ)
id_at units place = option_map (λ (unit : Unit). unit.id) (slice_get units place)

-- the unit that a fault of the tree names
abbrev pub tree_uid : List Unit → TreeFault → Option (List ℕ)
tree_uid units (NoParent node) = id_at units node
tree_uid units NoRoot = None
tree_uid units (TwoRoots second) = id_at units second
tree_uid units (Loop node) = id_at units node
tree_uid units (TooDeep node) = id_at units node
tree_uid units Memory = None

abbrev pub tree_error : List Unit → TreeFault → RuleError
tree_error units Memory = error.Memory
tree_error units fault = error.Broken (breaks rule.Tree (tree_uid units fault))

-- the units aren't a tree
unfoldable pub tree_broken : List Unit → Option RuleFault
tree_broken units = option_map (λ fault. breaks rule.Tree (tree_uid units fault)) (tree_fault (tree_rows units))
