use Rattle.std.proofs.Common.{◌≡◌, ◌∙◌, sym, ap, subst}
use Rattle.serde_json.specs.Written.{compact_text}
use Rattle.query_answer.specs.Body.{body_of, IsAnswer}
use Rattle.table_rows.specs.Store.{Contents}
use Rattle.cell_values.specs.Seen.{SeenRecords, seen_of, contents_of}
use Rattle.query_answer.specs.Rows.{rows_from}
use Rattle.query_answer.proofs.AnswerLemmas.{is_answer, wide_answer, body_answer}
use Rattle.query_answer.proofs.UnseenLemmas.{answer_of-same}
use Rattle.query_answer.proofs.whole.answer.Goals as goal

pub returns-in-Some-clause-answer : goal.returns-in-Some-clause-answer
returns-in-Some-clause-answer g c =
    let held : Contents = contents_of (g.S.RowStore.rows c.args.store.now) (g.S.RowStore.events c.args.store.now) (g.S.RowStore.regs c.args.store.now) in
    let shown : SeenRecords = seen_of c.args.meta.now c.args.seer.now.user held in
    wide_answer c.args.meta.now c.args.query.now shown c.in-Some.id (sym c.in-Some.is ∙ c.in_ok-id.ensures.wide)

pub returns-in-Some-clause-unseen : goal.returns-in-Some-clause-unseen
returns-in-Some-clause-unseen g c other same =
    let held : Contents = contents_of (g.S.RowStore.rows c.args.store.now) (g.S.RowStore.events c.args.store.now) (g.S.RowStore.regs c.args.store.now) in
    let shown : SeenRecords = seen_of c.args.meta.now c.args.seer.now.user held in
    let others : SeenRecords = seen_of c.args.meta.now c.args.seer.now.user other in
    sym (answer_of-same c.args.meta.now c.args.query.now shown others same) ∙ returns-in-Some-clause-answer g c

pub body-requires : goal.body-requires
body-requires g c =
    let held : Contents = contents_of (g.S.RowStore.rows c.args.store.now) (g.S.RowStore.events c.args.store.now) (g.S.RowStore.regs c.args.store.now) in
    let shown : SeenRecords = seen_of c.args.meta.now c.args.seer.now.user held in
    let rows : c.as_slice.result.now ≡ rows_from c.args.meta.now shown c.args.query.now 0 c.args.query.now.dx =
    c.as_slice.ensures.value ∙ c.in_ok-id.ensures.rows c.in-None.is in
    subst (IsAnswer c.args.meta.now c.args.query.now) (sym rows) (is_answer c.args.meta.now shown c.args.query.now c.requires.query)

pub returns-clause-answer : goal.returns-clause-answer
returns-clause-answer g c =
    let held : Contents = contents_of (g.S.RowStore.rows c.args.store.now) (g.S.RowStore.events c.args.store.now) (g.S.RowStore.regs c.args.store.now) in
    let shown : SeenRecords = seen_of c.args.meta.now c.args.seer.now.user held in
    let rows : c.as_slice.result.now ≡ rows_from c.args.meta.now shown c.args.query.now 0 c.args.query.now.dx =
    c.as_slice.ensures.value ∙ c.in_ok-id.ensures.rows c.in-None.is in
    body_answer c.args.meta.now c.args.query.now shown c.in_ok-body-in-None.field-0 (sym c.in-None.is ∙ c.in_ok-id.ensures.wide)
    (c.in_ok-body-in-None.ensures ∙ ap (λ l. compact_text (body_of c.args.meta.now c.args.query.now l)) rows)

pub returns-clause-unseen : goal.returns-clause-unseen
returns-clause-unseen g c other same =
    let held : Contents = contents_of (g.S.RowStore.rows c.args.store.now) (g.S.RowStore.events c.args.store.now) (g.S.RowStore.regs c.args.store.now) in
    let shown : SeenRecords = seen_of c.args.meta.now c.args.seer.now.user held in
    let others : SeenRecords = seen_of c.args.meta.now c.args.seer.now.user other in
    sym (answer_of-same c.args.meta.now c.args.query.now shown others same) ∙ returns-clause-answer g c
