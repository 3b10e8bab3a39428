use Rattle.std.proofs.Common.{◌∙◌, [], ◌∷◌, ◌++◌, sym, ap, subst}
use Rattle.std.specs.List.{All, flat_map}
use Rattle.std.proofs.lemmas.List.Elements.{All-head, All-rest}
use Rattle.query_answer.specs.BodyRows.{IsRow}
use Rattle.query_answer.specs.Written.{row_text, more_row}
use Rattle.query_answer.proofs.RowLemmas.{rows_written, no_rows}
use Rattle.query_answer.proofs.body_rows.push_rows.Goals as goal

pub returns : goal.returns
returns c =
    let r = c.args.meta.now in
    let dx = c.args.dx.now in
    let first = c.in-Some.first.now in
    let more = c.in-Some.more.now in
    c.in_ok-push-2.ensures.items
    ∙ ap (λ l. l ++ 93 ∷ [])
    (c.in_ok-push_more_rows.ensures
    ∙ ap (λ l. l ++ flat_map (more_row r dx) more) (c.in_ok-push_row.ensures ∙ ap (λ l. l ++ row_text r dx first) c.in_ok-push.ensures.items))
    ∙ rows_written r dx c.args.rows.now first more c.args.text.now.items c.in-Some.ensures.cases.0

pub returns-in_default : goal.returns-in_default
returns-in_default c =
    c.in_ok-extend_from_slice.ensures.items
    ∙ ap (λ l. c.args.text.now.items ++ l) (sym (no_rows c.args.meta.now c.args.dx.now c.args.rows.now c.in_default.ensures.cases))

pub push_row-requires-clause-row : goal.push_row-requires-clause-row
push_row-requires-clause-row c =
    let P = IsRow c.args.meta.now c.args.dx.now in
    All-head P c.in-Some.first.now c.in-Some.more.now (subst (All P) c.in-Some.ensures.cases.0 c.requires)

pub push_more_rows-requires-clause-rows : goal.push_more_rows-requires-clause-rows
push_more_rows-requires-clause-rows c =
    All-rest (IsRow c.args.meta.now c.args.dx.now) c.in-Some.first.now c.in-Some.more.now c.args.rows.now c.in-Some.ensures.cases.0 c.requires
