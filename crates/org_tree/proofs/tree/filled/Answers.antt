use Rattle.std.proofs.Common.{ℕ, List, length, sym, subst}
use Rattle.org_tree.specs.Families.{InFamilies, AreSpans}
use Rattle.org_tree.specs.Levels.{AreLevels}
use Rattle.org_tree.specs.Walk.{AreOrders, AreSizes}
use Rattle.org_tree.proofs.HeldLemmas.{IsHeld-from}
use Rattle.org_tree.proofs.tree.filled.Goals as goal

pub families-requires-clause-levels : goal.families-requires-clause-levels
families-requires-clause-levels c = subst (AreLevels c.args.units.now) (sym c.deref.ensures.value) c.requires.levels

pub orders-requires-clause-kin : goal.orders-requires-clause-kin
orders-requires-clause-kin c = subst (InFamilies c.args.units.now) (sym c.deref-2.ensures.value) c.in_ok-kin.ensures

pub orders-requires-clause-sizes : goal.orders-requires-clause-sizes
orders-requires-clause-sizes c = subst (AreSizes c.args.units.now) (sym c.deref-3.ensures.value) c.in_ok-sizes.ensures

pub walk-requires-clause-orders : goal.walk-requires-clause-orders
walk-requires-clause-orders c = subst (AreOrders c.args.units.now) (sym c.deref-4.ensures.value) c.in_ok-orders.ensures

pub spans-requires-clause-kin : goal.spans-requires-clause-kin
spans-requires-clause-kin c = subst (InFamilies c.args.units.now) (sym c.deref-5.ensures.value) c.in_ok-kin.ensures

pub invariant_of-result : goal.invariant_of-result
invariant_of-result c =
    let us = c.args.units.now in
    IsHeld-from _ us c.in_ok-units.ensures.items c.requires.tree c.requires.levels c.in_ok-orders.ensures c.in_ok-sizes.ensures c.in_ok-walk.ensures
    c.in_ok-kin.ensures
    (subst (λ (v : List ℕ). AreSpans us v (length us) c.in_ok-spans.spans.items) c.deref-5.ensures.value c.in_ok-spans.ensures)

pub returns : goal.returns
returns c = c.in_ok-units.ensures.items
