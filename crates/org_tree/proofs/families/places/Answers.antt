use Rattle.std.proofs.Common.{◌∙◌, ℕ, ap, map}
use Rattle.std.proofs.lemmas.List.{take_all}
use Rattle.org_tree.specs.declared.kin.Kin.{Kin}
use Rattle.org_tree.proofs.RowLemmas.{made-more}
use Rattle.org_tree.proofs.families.places.Goals as goal

pub loop-row-preserved : goal.loop-row-preserved
loop-row-preserved c =
    let place : Kin → ℕ = λ row. row.place in
    made-more place c.args.rows.now c.loop-row.row-index c.row-item.result c.loop-row.places.items c.push.new.self.items
    c.loop-row-test.true c.row-item.is c.loop-row.invariant c.in_ok-push.ensures.items

pub returns : goal.returns
returns c =
    let place : Kin → ℕ = λ row. row.place in
    c.loop-row.invariant ∙ ap (map place) (take_all c.loop-row.row-index c.args.rows.now c.loop-row-test.false)
