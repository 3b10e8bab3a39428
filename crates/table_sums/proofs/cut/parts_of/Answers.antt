use Rattle.std.proofs.Common.{◌∙◌, [], get_or, pos, map, ap}
use Rattle.std.proofs.lemmas.List.{get_or_default, take_all}
use Rattle.std.specs.List.{filter}
use Rattle.table_sums.specs.Years.{is_row_in, is_event_in, is_reg_in}
use Rattle.table_sums.specs.YearParts.{cut_by, listed_as, part_of}
use Rattle.table_sums.proofs.CutLemmas.{no-years, year-store-of, years-of-rise}
use Rattle.table_sums.proofs.ByYearLemmas.{part-more, rest-stays, still-within, taken-is}
use Rattle.table_sums.proofs.cut.parts_of.Goals as goal

pub lists_by_year-requires : goal.lists_by_year-requires
lists_by_year-requires c = years-of-rise (listed_as c.args.rows.items c.args.events.items c.args.regs.items) c.args.years.now c.requires

pub lists_by_year-requires-2 : goal.lists_by_year-requires-2
lists_by_year-requires-2 c = years-of-rise (listed_as c.args.rows.items c.args.events.items c.args.regs.items) c.args.years.now c.requires

pub lists_by_year-requires-3 : goal.lists_by_year-requires-3
lists_by_year-requires-3 c = years-of-rise (listed_as c.args.rows.items c.args.events.items c.args.regs.items) c.args.years.now c.requires

pub take_at-rows-requires : goal.take_at-rows-requires
take_at-rows-requires c =
    still-within c.loop-at.at c.loop-at.own_rows.items (λ year. filter (is_row_in year) c.args.rows.items) c.args.years.now c.loop-at.invariant.rows
    c.loop-at-test.true

pub take_at-events-requires : goal.take_at-events-requires
take_at-events-requires c =
    still-within c.loop-at.at c.loop-at.own_events.items (λ year. filter (is_event_in year) c.args.events.items) c.args.years.now c.loop-at.invariant.events
    c.loop-at-test.true

pub take_at-regs-requires : goal.take_at-regs-requires
take_at-regs-requires c =
    still-within c.loop-at.at c.loop-at.own_regs.items (λ year. filter (is_reg_in year) c.args.regs.items) c.args.years.now c.loop-at.invariant.regs
    c.loop-at-test.true

pub add_part-requires : goal.add_part-requires
add_part-requires c =
    let year = get_or c.args.years.now c.loop-at.at (pos 0) in
    let within = c.loop-at-test.true in
    let here = get_or_default c.args.years.now c.loop-at.at (pos 0) year within in
    year-store-of c.args.rows.items c.take_at-rows.result c.args.events.items c.take_at-events.result c.args.regs.items c.take_at-regs.result year
    (c.take_at-rows.ensures.taken
    ∙ taken-is c.loop-at.at c.loop-at.own_rows.items (λ y. filter (is_row_in y) c.args.rows.items) c.args.years.now year [] c.loop-at.invariant.rows within
    here)
    (c.take_at-events.ensures.taken
    ∙ taken-is c.loop-at.at c.loop-at.own_events.items (λ y. filter (is_event_in y) c.args.events.items) c.args.years.now year [] c.loop-at.invariant.events
    within here)
    (c.take_at-regs.ensures.taken
    ∙ taken-is c.loop-at.at c.loop-at.own_regs.items (λ y. filter (is_reg_in y) c.args.regs.items) c.args.years.now year [] c.loop-at.invariant.regs within
    here)
    (no-years c.args.rows.items c.args.events.items c.args.regs.items c.args.years.now c.requires.store)

pub loop-at-preserved : goal.loop-at-preserved
loop-at-preserved c =
    let at = c.loop-at.at in
    let year = get_or c.args.years.now c.loop-at.at (pos 0) in
    let within = c.loop-at-test.true in
    let here = get_or_default c.args.years.now c.loop-at.at (pos 0) year within in
    record {
      parts = part-more c.args.rows.items c.take_at-rows.result c.args.events.items c.take_at-events.result c.args.regs.items c.take_at-regs.result
          c.args.years.now c.loop-at.parts.items c.add_part.new.parts.items at year within here
          (c.take_at-rows.ensures.taken
          ∙ taken-is at c.loop-at.own_rows.items (λ y. filter (is_row_in y) c.args.rows.items) c.args.years.now year [] c.loop-at.invariant.rows within
          here)
          (c.take_at-events.ensures.taken
          ∙ taken-is at c.loop-at.own_events.items (λ y. filter (is_event_in y) c.args.events.items) c.args.years.now year [] c.loop-at.invariant.events within
          here)
          (c.take_at-regs.ensures.taken
          ∙ taken-is at c.loop-at.own_regs.items (λ y. filter (is_reg_in y) c.args.regs.items) c.args.years.now year [] c.loop-at.invariant.regs within
          here)
          c.in_ok-add_part.ensures c.loop-at.invariant.parts;
      rows = rest-stays at c.loop-at.own_rows.items c.take_at-rows.new.lists.items (cut_by is_row_in c.args.years.now c.args.rows.items) []
          c.take_at-rows.ensures.left c.loop-at.invariant.rows;
      events = rest-stays at c.loop-at.own_events.items c.take_at-events.new.lists.items (cut_by is_event_in c.args.years.now c.args.events.items) []
          c.take_at-events.ensures.left c.loop-at.invariant.events;
      regs = rest-stays at c.loop-at.own_regs.items c.take_at-regs.new.lists.items (cut_by is_reg_in c.args.years.now c.args.regs.items) []
          c.take_at-regs.ensures.left c.loop-at.invariant.regs;
    }

pub loop-at-init : goal.loop-at-init
loop-at-init c = record {
  parts = c.new-parts.ensures.items;
  rows = c.in_ok-own_rows.ensures;
  events = c.in_ok-own_events.ensures;
  regs = c.in_ok-own_regs.ensures;
}

pub returns : goal.returns
returns c =
    c.loop-at.invariant.parts
    ∙ ap (map (part_of (listed_as c.args.rows.items c.args.events.items c.args.regs.items))) (take_all c.loop-at.at c.args.years.now c.loop-at-test.false)
