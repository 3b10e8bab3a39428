use Rattle.std.proofs.Common.{◌∙◌, true, false, sym, ap}
use Rattle.std.specs.List.{filter}
use Rattle.std.proofs.lemmas.List.{take_all, append-nil}
use Rattle.table_rows.specs.Rows.{is_wanted}
use Rattle.table_rows.proofs.KeptLemmas.{kept-more}
use Rattle.table_rows.proofs.plain.rows_of.Goals.{then-is_wanted+in_ok-push, else-is_wanted}
use Rattle.table_rows.proofs.plain.rows_of.Goals as goal

pub loop-row-preserved : goal.loop-row-preserved
loop-row-preserved c =
    let wanted = is_wanted c.args.group.now c.args.need c.args.from c.args.to in
    elim c.if-is_wanted.branch [
      | then-is_wanted+in_ok-push w ↦
          kept-more wanted c.args.rows.now c.loop-row.row-index c.row-item.result true c.loop-row.found.items c.if-is_wanted.found.items
          c.loop-row-test.true c.row-item.is (sym w.if-is_wanted.true ∙ c.is_wanted.ensures) (ap (λ v. v.items) w.found-is ∙ w.in_ok-push.ensures.items)
          c.loop-row.invariant
      | else-is_wanted w ↦
          kept-more wanted c.args.rows.now c.loop-row.row-index c.row-item.result false c.loop-row.found.items c.if-is_wanted.found.items
          c.loop-row-test.true c.row-item.is (sym w.if-is_wanted.false ∙ c.is_wanted.ensures)
          (ap (λ v. v.items) w.found-is ∙ sym (append-nil c.loop-row.found.items)) c.loop-row.invariant
    ]

pub returns : goal.returns
returns c =
    c.from.ensures ∙ c.loop-row.invariant
    ∙ ap (filter (is_wanted c.args.group.now c.args.need c.args.from c.args.to))
    (take_all c.loop-row.row-index c.args.rows.now c.loop-row-test.false)
