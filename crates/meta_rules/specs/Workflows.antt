-- Data elements in data sets of two workflows.
use Rattle.std.specs.Prelude.{ℕ, Bool, false, not, ◌==◌, List, [], ◌∷◌, length, Option, option_map, slice_get}
use Rattle.std.specs.List.{list_any}
use Rattle.org_tree.specs.Count.{first_below}
use Rattle.dh_metadata.specs.declared.records.Element.{Element}
use Rattle.dh_metadata.specs.declared.records.DataSet.{DataSet}
use Rattle.dh_metadata.specs.Workflows.{workflows_by}
use Rattle.meta_rules.specs.declared.fault.BrokenRule.TheVariants as rule
use Rattle.meta_rules.specs.declared.fault.RuleFault.{RuleFault}
use Rattle.meta_rules.specs.Faults.{breaks}

-- some of them differs from the first
abbrev pub have_several : List ℕ → Bool
have_several [] = false
have_several (first ∷ others) = list_any (λ other. not (other == first)) others

-- the element is in data sets of two workflows
abbrev pub is_torn : List DataSet → ℕ → Bool
is_torn sets element = have_several (workflows_by sets element)

abbrev pub torn_fault : List Element → ℕ → RuleFault
torn_fault elements place = breaks rule.Workflow (option_map (λ (element : Element). element.id) (slice_get elements place))

-- an element is in data sets of two workflows
unfoldable pub workflow_broken : List Element → List DataSet → Option RuleFault
workflow_broken elements sets = option_map (torn_fault elements) (first_below (is_torn sets) (length elements))
