use Rattle.std.proofs.Common.{◌∙◌, ℕ, List, ap, map}
use Rattle.std.proofs.lemmas.List.{take_all}
use Rattle.org_tree.specs.Units.{UnitRow}
use Rattle.org_tree.proofs.RowLemmas.{made-more}
use Rattle.org_tree.proofs.own_ids.ids.Goals as goal

pub loop-unit-preserved : goal.loop-unit-preserved
loop-unit-preserved c =
    let id : UnitRow → List ℕ = λ unit. unit.0 in
    made-more id c.args.units.now c.loop-unit.unit-index c.unit-item.result c.loop-unit.ids.items c.push.new.self.items
    c.loop-unit-test.true c.unit-item.is c.loop-unit.invariant c.in_ok-push.ensures.items

pub returns : goal.returns
returns c =
    let id : UnitRow → List ℕ = λ unit. unit.0 in
    c.loop-unit.invariant ∙ ap (map id) (take_all c.loop-unit.unit-index c.args.units.now c.loop-unit-test.false)
