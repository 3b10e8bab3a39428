use Rattle.std.proofs.Common.{◌≡◌, take, drop, map}
use Rattle.table_sums.specs.Years.{is_row_in, is_event_in, is_reg_in}
use Rattle.table_sums.specs.YearParts.{cut_by, listed_as, part_of}
use Rattle.table_sums.proofs.cut.parts_of.Given as goal

abbrev pub invariant-loop-at : goal.invariant-loop-at
invariant-loop-at l = record {
  parts : l.parts.items ≡ map (part_of (listed_as l.fn.rows.items l.fn.events.items l.fn.regs.items)) (take l.at l.years);
  rows : drop l.at l.own_rows.items ≡ drop l.at (cut_by is_row_in l.years l.fn.rows.items);
  events : drop l.at l.own_events.items ≡ drop l.at (cut_by is_event_in l.years l.fn.events.items);
  regs : drop l.at l.own_regs.items ≡ drop l.at (cut_by is_reg_in l.years l.fn.regs.items);
}
