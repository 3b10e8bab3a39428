use Rattle.std.proofs.Common.{◌≡◌, ◌∙◌, ◌++◌, sym, ap, subst, get_or, true}
use Rattle.std.proofs.lemmas.List.Folds.{list_any_at}
use Rattle.cell_values.specs.Seen.{seen_of, contents_of}
use Rattle.query_answer.specs.Parts.{period_slot, unit_slot, IsUnitPart}
use Rattle.query_answer.specs.Rows.{unit_slots, unit_is_wide, unit_rows, period_is_wide, period_rows}
use Rattle.query_answer.proofs.LoopLemmas.{joined-all, joined-more, none-more, none-passed}
use Rattle.query_answer.proofs.PartLemmas.{part_there, part_found, part_past}
use Rattle.query_answer.proofs.rows.write_units.Goals as goal

pub write_cell-requires-clause-unit : goal.write_cell-requires-clause-unit
write_cell-requires-clause-unit g c =
    subst (IsUnitPart c.args.asking.now.source.now.meta.now c.args.asking.now.source.now.seer.now.user) (sym c.unit-item.is)
    (c.requires.parts.seen c.loop-unit.unit-index c.unit-item.result c.loop-unit-test.true)

pub returns-then-branch-clause-wide : goal.returns-then-branch-clause-wide
unfolding period_is_wide
returns-then-branch-clause-wide g c =
    let test = unit_is_wide c.args.asking.now.source.now.meta.now
    (seen_of c.args.asking.now.source.now.meta.now c.args.asking.now.source.now.seer.now.user
    (contents_of (g.S.RowStore.rows c.args.asking.now.source.now.store.now) (g.S.RowStore.events c.args.asking.now.source.now.store.now)
    (g.S.RowStore.regs c.args.asking.now.source.now.store.now)))
    c.args.item.now.dx.now (period_slot c.args.period.now.part.now) in
    let all = unit_slots c.args.asking.now.query.now in
    let x = unit_slot c.unit-item.result in
    let within = part_there unit_slot c.args.asking.now.units.now all c.loop-unit.unit-index c.requires.parts.units c.loop-unit-test.true in
    let at = part_found unit_slot c.args.asking.now.units.now all c.loop-unit.unit-index c.unit-item.result c.requires.parts.units
    c.loop-unit-test.true c.unit-item.is in
    let here : test (get_or all c.loop-unit.unit-index x) ≡ true =
    ap test (sym at) ∙ (sym c.in_ok-write_cell.ensures.wide ∙ c.if-branch.true) in
    sym (list_any_at test all c.loop-unit.unit-index x within here)

pub loop-unit-preserved : goal.loop-unit-preserved
loop-unit-preserved g c =
    let r = c.args.asking.now.source.now.meta.now in
    let shown = (seen_of c.args.asking.now.source.now.meta.now c.args.asking.now.source.now.seer.now.user
    (contents_of (g.S.RowStore.rows c.args.asking.now.source.now.store.now) (g.S.RowStore.events c.args.asking.now.source.now.store.now)
    (g.S.RowStore.regs c.args.asking.now.source.now.store.now))) in
    let dx = c.args.item.now.dx.now in
    let period = period_slot c.args.period.now.part.now in
    let rows = unit_rows r shown c.args.item.now.place dx period in
    let all = unit_slots c.args.asking.now.query.now in
    let x = unit_slot c.unit-item.result in
    let within = part_there unit_slot c.args.asking.now.units.now all c.loop-unit.unit-index c.requires.parts.units c.loop-unit-test.true in
    let at = part_found unit_slot c.args.asking.now.units.now all c.loop-unit.unit-index c.unit-item.result c.requires.parts.units
    c.loop-unit-test.true c.unit-item.is in
    record {
      none = none-more (unit_is_wide r shown dx period) all c.loop-unit.unit-index x within at c.loop-unit.invariant.none
          (sym c.in_ok-write_cell.ensures.wide ∙ c.if-branch.false);
      rows = joined-more rows all c.args.rows.now.items c.loop-unit.rows.items c.write_cell.new.rows.items c.loop-unit.unit-index x within
          c.loop-unit.invariant.rows (c.in_ok-write_cell.ensures.rows ∙ ap (λ slot. c.loop-unit.rows.items ++ rows slot) at);
    }

pub returns-clause-wide : goal.returns-clause-wide
unfolding period_is_wide
returns-clause-wide g c =
    none-passed
    (unit_is_wide c.args.asking.now.source.now.meta.now
    (seen_of c.args.asking.now.source.now.meta.now c.args.asking.now.source.now.seer.now.user
    (contents_of (g.S.RowStore.rows c.args.asking.now.source.now.store.now) (g.S.RowStore.events c.args.asking.now.source.now.store.now)
    (g.S.RowStore.regs c.args.asking.now.source.now.store.now)))
    c.args.item.now.dx.now (period_slot c.args.period.now.part.now))
    (unit_slots c.args.asking.now.query.now) c.loop-unit.unit-index
    (part_past unit_slot c.args.asking.now.units.now (unit_slots c.args.asking.now.query.now) c.loop-unit.unit-index c.requires.parts.units
    c.loop-unit-test.false) c.loop-unit.invariant.none

pub returns-clause-rows : goal.returns-clause-rows
unfolding period_rows
returns-clause-rows g c = λ fine.
    joined-all
    (unit_rows c.args.asking.now.source.now.meta.now
    (seen_of c.args.asking.now.source.now.meta.now c.args.asking.now.source.now.seer.now.user
    (contents_of (g.S.RowStore.rows c.args.asking.now.source.now.store.now) (g.S.RowStore.events c.args.asking.now.source.now.store.now)
    (g.S.RowStore.regs c.args.asking.now.source.now.store.now)))
    c.args.item.now.place c.args.item.now.dx.now (period_slot c.args.period.now.part.now))
    (unit_slots c.args.asking.now.query.now) c.args.rows.now.items c.loop-unit.rows.items c.loop-unit.unit-index
    (part_past unit_slot c.args.asking.now.units.now (unit_slots c.args.asking.now.query.now) c.loop-unit.unit-index c.requires.parts.units
    c.loop-unit-test.false) c.loop-unit.invariant.rows
