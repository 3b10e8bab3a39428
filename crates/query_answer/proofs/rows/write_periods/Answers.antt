use Rattle.std.proofs.Common.{◌≡◌, ◌∙◌, ◌++◌, sym, ap, get_or, true}
use Rattle.std.proofs.lemmas.List.Folds.{list_any_at}
use Rattle.cell_values.specs.Seen.{seen_of, contents_of}
use Rattle.query_answer.specs.Parts.{period_slot}
use Rattle.query_answer.specs.Rows.{unit_slots, period_slots, period_is_wide, period_rows, dx_is_wide, dx_rows}
use Rattle.query_answer.proofs.LoopLemmas.{joined-all, joined-more, none-more, none-passed}
use Rattle.query_answer.proofs.PartLemmas.{part_there, part_found, part_past}
use Rattle.query_answer.proofs.rows.write_periods.Goals as goal

pub returns-then-branch-clause-wide : goal.returns-then-branch-clause-wide
unfolding dx_is_wide
returns-then-branch-clause-wide g c =
    let test = period_is_wide c.args.asking.now.source.now.meta.now
    (seen_of c.args.asking.now.source.now.meta.now c.args.asking.now.source.now.seer.now.user
    (contents_of (g.S.RowStore.rows c.args.asking.now.source.now.store.now) (g.S.RowStore.events c.args.asking.now.source.now.store.now)
    (g.S.RowStore.regs c.args.asking.now.source.now.store.now)))
    c.args.item.now.dx.now (unit_slots c.args.asking.now.query.now) in
    let all = period_slots c.args.asking.now.query.now in
    let x = period_slot c.part-item.result in
    let within = part_there period_slot c.args.asking.now.periods.now all c.loop-part.part-index c.requires.parts.periods c.loop-part-test.true in
    let at = part_found period_slot c.args.asking.now.periods.now all c.loop-part.part-index c.part-item.result c.requires.parts.periods
    c.loop-part-test.true c.part-item.is in
    let here : test (get_or all c.loop-part.part-index x) ≡ true =
    ap test (sym at) ∙ (sym c.in_ok-wide.ensures.wide ∙ c.if-branch.true) in
    sym (list_any_at test all c.loop-part.part-index x within here)

pub loop-part-preserved : goal.loop-part-preserved
loop-part-preserved g c =
    let r = c.args.asking.now.source.now.meta.now in
    let shown = (seen_of c.args.asking.now.source.now.meta.now c.args.asking.now.source.now.seer.now.user
    (contents_of (g.S.RowStore.rows c.args.asking.now.source.now.store.now) (g.S.RowStore.events c.args.asking.now.source.now.store.now)
    (g.S.RowStore.regs c.args.asking.now.source.now.store.now))) in
    let dx = c.args.item.now.dx.now in
    let units = unit_slots c.args.asking.now.query.now in
    let rows = period_rows r shown c.args.item.now.place dx units in
    let all = period_slots c.args.asking.now.query.now in
    let x = period_slot c.part-item.result in
    let within = part_there period_slot c.args.asking.now.periods.now all c.loop-part.part-index c.requires.parts.periods c.loop-part-test.true in
    let at = part_found period_slot c.args.asking.now.periods.now all c.loop-part.part-index c.part-item.result c.requires.parts.periods
    c.loop-part-test.true c.part-item.is in
    record {
      none = none-more (period_is_wide r shown dx units) all c.loop-part.part-index x within at c.loop-part.invariant.none
          (sym c.in_ok-wide.ensures.wide ∙ c.if-branch.false);
      rows = joined-more rows all c.args.rows.now.items c.loop-part.rows.items c.write_units-wide.new.rows.items c.loop-part.part-index x within
          c.loop-part.invariant.rows
          (c.in_ok-wide.ensures.rows c.if-branch.false ∙ ap (λ slot. c.loop-part.rows.items ++ rows slot) at);
    }

pub returns-clause-wide : goal.returns-clause-wide
unfolding dx_is_wide
returns-clause-wide g c =
    none-passed
    (period_is_wide c.args.asking.now.source.now.meta.now
    (seen_of c.args.asking.now.source.now.meta.now c.args.asking.now.source.now.seer.now.user
    (contents_of (g.S.RowStore.rows c.args.asking.now.source.now.store.now) (g.S.RowStore.events c.args.asking.now.source.now.store.now)
    (g.S.RowStore.regs c.args.asking.now.source.now.store.now)))
    c.args.item.now.dx.now (unit_slots c.args.asking.now.query.now))
    (period_slots c.args.asking.now.query.now) c.loop-part.part-index
    (part_past period_slot c.args.asking.now.periods.now (period_slots c.args.asking.now.query.now) c.loop-part.part-index c.requires.parts.periods
    c.loop-part-test.false) c.loop-part.invariant.none

pub returns-clause-rows : goal.returns-clause-rows
unfolding dx_rows
returns-clause-rows g c = λ fine.
    joined-all
    (period_rows c.args.asking.now.source.now.meta.now
    (seen_of c.args.asking.now.source.now.meta.now c.args.asking.now.source.now.seer.now.user
    (contents_of (g.S.RowStore.rows c.args.asking.now.source.now.store.now) (g.S.RowStore.events c.args.asking.now.source.now.store.now)
    (g.S.RowStore.regs c.args.asking.now.source.now.store.now)))
    c.args.item.now.place c.args.item.now.dx.now (unit_slots c.args.asking.now.query.now))
    (period_slots c.args.asking.now.query.now) c.args.rows.now.items c.loop-part.rows.items c.loop-part.part-index
    (part_past period_slot c.args.asking.now.periods.now (period_slots c.args.asking.now.query.now) c.loop-part.part-index c.requires.parts.periods
    c.loop-part-test.false) c.loop-part.invariant.rows
