use Rattle.std.proofs.Common.{◌∙◌, subst, sym, ap}
use Rattle.std.specs.List.{filter}
use Rattle.dh_base.specs.declared.plain.Need.{Need}
use Rattle.table_rows.specs.Rows.{wanted_rows}
use Rattle.table_sums.specs.Parts.{is_upto, AreEnough}
use Rattle.table_sums.proofs.PartLemmas.{enough-upto, upto-last, upto-all}
use Rattle.table_sums.proofs.range.rows_of_part.Goals as goal

pub push_position-requires-clause-found : goal.push_position-requires-clause-found
push_position-requires-clause-found g c =
    let part = c.args.part.now in
    let positions = c.positions_for-positions.result in
    c.in_ok-found.ensures ∙ ap (filter (is_upto part positions)) c.rows-rows.ensures.rows
    ∙ upto-last part positions c.args.list.now
    (subst (λ (need : Need). AreEnough need c.args.list.now positions) c.in-All.is c.positions_for-positions.ensures.enough)
    ∙ ap (filter (is_upto part 256)) (sym c.rows-rows.ensures.rows)

pub returns-in_ok-push_position-in-All : goal.returns-in_ok-push_position-in-All
returns-in_ok-push_position-in-All g c =
    let part = c.args.part.now in
    let positions = c.positions_for-positions.result in
    c.from.ensures ∙ c.in_ok-push_position-in-All.ensures ∙ ap (filter (is_upto part 257)) c.rows-rows.ensures.rows
    ∙ upto-all part positions c.args.list.now
    (subst (λ (need : Need). AreEnough need c.args.list.now positions) c.in-All.is c.positions_for-positions.ensures.enough)
    ∙ ap (λ (need : Need). wanted_rows part.group need part.from part.to c.args.list.now) (sym c.in-All.is)

pub returns-in-Upto : goal.returns-in-Upto
returns-in-Upto g c =
    let part = c.args.part.now in
    let positions = c.positions_for-positions.result in
    c.from-in-Upto.ensures ∙ c.in_ok-found.ensures ∙ ap (filter (is_upto part positions)) c.rows-rows.ensures.rows
    ∙ enough-upto c.args.need _ part positions c.args.list.now c.positions_for-positions.ensures.enough c.in-Upto.is
