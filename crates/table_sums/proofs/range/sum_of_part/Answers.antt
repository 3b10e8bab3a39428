use Rattle.std.proofs.Common.{◌∙◌, subst, sym, ap}
use Rattle.dh_base.specs.declared.plain.Need.{Need}
use Rattle.table_rows.specs.Rows.{wanted_rows}
use Rattle.table_rows.specs.Sums.{sum_of_rows}
use Rattle.table_sums.specs.Parts.{AreEnough}
use Rattle.table_sums.proofs.PartLemmas.{cost-all, cost-some, enough-upto, upto-last, upto-all}
use Rattle.table_sums.proofs.range.sum_of_part.Goals as goal

pub add_position-requires : goal.add_position-requires
add_position-requires g c =
    let positions = c.positions_for-positions.result in
    c.sum_upto-sum.ensures.sum
    ∙ ap sum_of_rows (upto-last c.args.part.now positions c.args.list.now
    (subst (λ (need : Need). AreEnough need c.args.list.now positions) c.in-All.is c.positions_for-positions.ensures.enough))

pub returns-in-All-clause-sum : goal.returns-in-All-clause-sum
returns-in-All-clause-sum g c =
    let part = c.args.part.now in
    let positions = c.positions_for-positions.result in
    c.add_position.ensures.sum
    ∙ ap sum_of_rows (upto-all part positions c.args.list.now
    (subst (λ (need : Need). AreEnough need c.args.list.now positions) c.in-All.is c.positions_for-positions.ensures.enough)
    ∙ ap (λ (need : Need). wanted_rows part.group need part.from part.to c.args.list.now) (sym c.in-All.is))

pub returns-in-All-clause-cost : goal.returns-in-All-clause-cost
returns-in-All-clause-cost g c = λ d all few.
    cost-all _ _ _ d c.positions_for-positions.result (c.sum_upto-sum.ensures.cost d few) (c.positions_for-positions.ensures.few all)
    (c.add_position.ensures.cost d few)

pub returns-in-Upto-clause-sum : goal.returns-in-Upto-clause-sum
returns-in-Upto-clause-sum g c =
    c.sum_upto-sum.ensures.sum
    ∙ ap sum_of_rows (enough-upto c.args.need _ c.args.part.now c.positions_for-positions.result c.args.list.now c.positions_for-positions.ensures.enough
    c.in-Upto.is)

pub returns-in-Upto-clause-cost : goal.returns-in-Upto-clause-cost
returns-in-Upto-clause-cost g c = λ d all few.
    cost-some _ _ d c.positions_for-positions.result (c.sum_upto-sum.ensures.cost d few) (c.positions_for-positions.ensures.few all)
