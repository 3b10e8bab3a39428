use Rattle.std.proofs.Common.{◌≡◌, ◌⊎◌, None, Some, subst, sym, ap, ◌∙◌, inl, inr}
use Rattle.std.proofs.lemmas.Result.{IfOk-weaker, IfErr-weaker}
use Rattle.org_tree.specs.Count.{or_else}
use Rattle.org_tree.specs.Units.{IsTree}
use Rattle.org_tree.specs.Levels.{AreLevels}
use Rattle.org_tree.specs.Faults.{shape_fault, depth_fault, tree_fault, NeverReaches}
use Rattle.org_tree.specs.declared.fault.TreeFault.{TreeFault}
use Rattle.org_tree.specs.declared.fault.TreeFault.TheVariants as fault
use Rattle.org_tree.proofs.FaultLemmas.{HasParents-from_none, shape_parts, IsTree-from_checks, no_depth_fault, never_reaches}
use Rattle.org_tree.proofs.check.check.Goals as goal

pub levels-requires-clause-parents : goal.levels-requires-clause-parents
levels-requires-clause-parents c = HasParents-from_none c.args.units.now (shape_parts c.args.units.now (sym c.in_default.ensures)).0

pub returns-clause-tree : goal.returns-clause-tree
returns-clause-tree c =
    let us = c.args.units.now in
    IfOk-weaker c.levels.result (λ levels. AreLevels us levels.items) (λ _. IsTree us)
    (λ levels has. IsTree-from_checks us levels.items c.requires.few c.requires.own_ids (sym c.in_default.ensures) has)
    c.levels.ensures.levels

pub returns-clause-none : goal.returns-clause-none
unfolding tree_fault
returns-clause-none c =
    let us = c.args.units.now in
    IfOk-weaker c.levels.result (λ levels. AreLevels us levels.items) (λ _. or_else (shape_fault us) (depth_fault us) ≡ None)
    (λ levels has. ap (λ o. or_else o (depth_fault us)) (sym c.in_default.ensures)
    ∙ no_depth_fault us levels.items (HasParents-from_none us (shape_parts us (sym c.in_default.ensures)).0) has)
    c.levels.ensures.levels

pub returns-clause-loop_node : goal.returns-clause-loop_node
unfolding tree_fault
returns-clause-loop_node c =
    let us = c.args.units.now in
    IfErr-weaker c.levels.result (λ e. (e ≡ fault.Memory) ⊎ (depth_fault us ≡ Some e)) (λ e. NeverReaches us e)
    (λ e is. elim is [
      | inl memory ↦ subst (λ (v : TreeFault). NeverReaches us v) (sym memory) tt
      | inr depth ↦ never_reaches us e (ap (λ o. or_else o (depth_fault us)) (sym c.in_default.ensures) ∙ depth)
    ])
    c.levels.ensures.fault
