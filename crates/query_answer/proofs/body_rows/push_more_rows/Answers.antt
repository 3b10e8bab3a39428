use Rattle.std.proofs.Common.{◌∙◌, [], ◌∷◌, ◌++◌, append_assoc, append-nil, sym, ap, subst}
use Rattle.std.specs.List.{flat_map}
use Rattle.std.proofs.lemmas.List.{take_all}
use Rattle.query_answer.specs.BodyRows.{IsRow}
use Rattle.query_answer.specs.Written.{row_text, more_row}
use Rattle.query_answer.proofs.LoopLemmas.{joined-more}
use Rattle.query_answer.proofs.body_rows.push_more_rows.Goals as goal

pub loop-row-preserved : goal.loop-row-preserved
loop-row-preserved c =
    let r = c.args.meta.now in
    let dx = c.args.dx.now in
    let row = c.row-item.result in
    let before = c.loop-row.text.items in
    record {
      start = c.in_ok-start.ensures.start;
      text = joined-more (more_row r dx) c.args.rows.now c.args.text.now.items before c.push_row.new.text.items c.loop-row.row-index row
          c.loop-row-test.true c.loop-row.invariant.text
          (c.in_ok-push_row.ensures ∙ ap (λ l. l ++ row_text r dx row) c.in_ok-push.ensures.items
          ∙ append_assoc before (44 ∷ []) (row_text r dx row) ∙ ap (λ y. before ++ more_row r dx y) c.row-item.is);
    }

pub loop-row-init : goal.loop-row-init
loop-row-init c = record { start = c.requires.start; text = sym (append-nil c.args.text.now.items) }

pub returns : goal.returns
returns c =
    c.loop-row.invariant.text
    ∙ ap (λ rows. c.args.text.now.items ++ flat_map (more_row c.args.meta.now c.args.dx.now) rows)
    (take_all c.loop-row.row-index c.args.rows.now c.loop-row-test.false)

pub push_row-requires-clause-row : goal.push_row-requires-clause-row
push_row-requires-clause-row c =
    subst (IsRow c.args.meta.now c.args.dx.now) (sym c.row-item.is) (c.requires.rows c.loop-row.row-index c.row-item.result c.loop-row-test.true)
