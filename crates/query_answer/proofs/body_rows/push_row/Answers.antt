use Rattle.std.proofs.Common.{◌∙◌, [], ◌∷◌, ◌++◌, ap}
use Rattle.query_answer.specs.Texts.{in_quotes, more_texts}
use Rattle.query_answer.specs.BodyRows.{unit_texts}
use Rattle.query_answer.proofs.RowLemmas.{row_written}
use Rattle.query_answer.proofs.body_rows.push_row.Goals as goal

pub returns : goal.returns
returns c =
    let r = c.args.meta.now in
    let row = c.args.row.now in
    let start = c.args.start.now in
    let rest = more_texts (unit_texts r row.unit) ++ 44 ∷ (in_quotes row.value ++ 93 ∷ []) in
    row_written r c.args.dx.now row start.dx start.period c.args.text.now.items c.as_slice.result.now c.push_rest.new.text.items
    (c.as_slice.ensures.value ∙ c.requires.start) c.requires.dx c.requires.period
    (c.in_ok-push_rest.ensures ∙ ap (λ l. l ++ rest) c.in_ok-extend_from_slice.ensures.items)
